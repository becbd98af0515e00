-- Rounds over all arcs find the least costs of walks.
use Rattle.plan_num.proofs.Common.{◌≡◌, ℕ, ℤ, zero, suc, pos, negsuc, neg_ℤ, ◌+◌, ◌*◌, ◌<◌, ◌≤◌}
use Rattle.plan_num.proofs.Common.{◌==◌, ◌+ℤ◌, ◌-ℤ◌, ◌≤ℤ◌, ◌&&◌, nat_lt, not, max, is_some, Bool}
use Rattle.plan_num.proofs.Common.{true, false, cond, List, [], ◌∷◌, length, sum, fold, get_or}
use Rattle.plan_num.proofs.Common.{unsigned_abs, Option, Some, None, IfSome, option_map, Result, Ok}
use Rattle.plan_num.proofs.Common.{Err, IfOk, refl, ap, sym, ◌∙◌, subst, arith, int_max}
use Rattle.plan_num.proofs.Common.{range_with_len, get_or-eq_default, eqb-true, eqb-false, lt-ltb}
use Rattle.plan_num.proofs.Common.{ints, length-map, get_or-map-range_with_len}
use Rattle.plan_num.proofs.Common.{length-range_with_len, sum_by-cons}
use Rattle.link_plans.proofs.Common.{next, is_next, plan_gain, IsPlan, Links, AreLinks}
use Rattle.link_plans.proofs.Common.{PotentialParts, at, total, ArePotentials, AreValid, by_bound}
use Rattle.canonical_potentials.specs.Canonical.{AreCanonical}
use Rattle.canonical_potentials.specs.Drops.{DropParts, drop_at, AreFound, depth, IsSearched}
use Rattle.canonical_potentials.specs.Drops.{PairKept, LinkKept, NextKept, RootKept, AreKept}
use Rattle.canonical_potentials.specs.Residual.{Node, root, left, right, arc, free_arc, walk_cost, IsLeastCost}
use Rattle.canonical_potentials.specs.Rounds.{not_below, over_arc, over, greatest, furthest, round}
use Rattle.canonical_potentials.specs.Rounds.{settled, no_drops, canonical}
use Rattle.canonical_potentials.proofs.Deeper.{joined}
use Rattle.canonical_potentials.proofs.Settled.{searched_first, settled_canonical, settled_small, settled_valid}
use Rattle.canonical_potentials.proofs.Shallow.{walk_least, back_arc}
use Rattle.canonical_potentials.proofs.Steps.{sum_most}

-- ---- the greatest of some numbers

greatest_from : (value : ℕ → ℕ) (most from count : ℕ) → most ≤ fold (λ most k. max most (value k)) most
    (range_with_len from count)
greatest_from value most from zero = omega arith
greatest_from value most from (suc count) =
    omega (arith, greatest_from value (max most (value from)) (from + 1) count)

greatest_at : (value : ℕ → ℕ) (most from count k : ℕ) → from ≤ k → k < from + count
    → value k ≤ fold (λ most k. max most (value k)) most (range_with_len from count)
greatest_at value most from zero k low high = absurd (omega (arith, low, high))
greatest_at value most from (suc count) k low high =
    by_bound from k
    (λ below. greatest_at value (max most (value from)) (from + 1) count k (omega (arith, below)) (omega (arith, high)))
    (λ above.
    let same : value k ≡ value from = same_value (omega (arith, above, low)) in
    omega (arith, same, greatest_from value (max most (value from)) (from + 1) count))
  where
    same_value : k ≡ from → value k ≡ value from
    same_value e = ap value e

greatest_keeps : (P : ℕ → Type 0) (value : ℕ → ℕ) → ((most k : ℕ) → P most → P (max most (value k)))
    → (most from count : ℕ) → P most → P (fold (λ most k. max most (value k)) most (range_with_len from count))
greatest_keeps P value keeps most from zero h = h
greatest_keeps P value keeps most from (suc count) h =
    greatest_keeps P value keeps (max most (value from)) (from + 1) count (keeps most from h)

-- ---- a round

-- a walk that goes so far
abbrev IsFoundAt : Links → List (Option ℕ) → Node → ℕ → Type 0
IsFoundAt links plan node number = (walk : List Node) × (walk_cost links plan node walk ≡ Some (neg_ℤ (pos number)))

not_below_is : (z : ℤ) → 0 < not_below z → pos (not_below z) ≡ z
not_below_is (pos n) some = refl
not_below_is (negsuc n) some = absurd (omega (arith, some))

not_below_most : (z : ℤ) (most : ℕ) → not_below z ≤ most → z ≤ℤ pos most
not_below_most (pos n) most h = omega (arith, ints, h)
not_below_most (negsuc n) most h = omega (arith, ints)

module _ (links : Links) (plan : List (Option ℕ)) (drops : DropParts) where
  -- going on keeps a walk
  found_over : AreFound links plan drops → (to from : Node) (most : ℕ) → IsFoundAt links plan to most
      → IsFoundAt links plan to (max most (over links plan drops to from))
  found_over found to from most h = by_arc (arc links plan from to) refl
    where
      same_most : {number : ℕ} → number ≤ most → IsFoundAt links plan to (max most number)
      same_most {number} less = subst (IsFoundAt links plan to) (max_is less) h
        where
          max_is : number ≤ most → most ≡ max most number
          max_is less = omega (arith, less)

      by_arc : (cost : Option ℤ) → arc links plan from to ≡ cost
          → IsFoundAt links plan to (max most (over_arc (drop_at drops from) cost))
      by_arc None e = same_most (omega arith)
      by_arc (Some cost) e = by_bound most (not_below (pos (drop_at drops from) -ℤ cost))
          (λ less.
          let exact = not_below_is (pos (drop_at drops from) -ℤ cost) (omega (arith, less)) in
          let before = found from in
          let same : (neg_ℤ (pos (drop_at drops from)) +ℤ cost) ≡ neg_ℤ
          (pos (not_below (pos (drop_at drops from) -ℤ cost))) =
          omega (arith, ints, exact) in
          let number_is : not_below (pos (drop_at drops from) -ℤ cost) ≡ max most
          (not_below (pos (drop_at drops from) -ℤ cost)) =
          omega (arith, less) in
          subst (IsFoundAt links plan to) number_is (
            from ∷ before.0,
            joined (arc links plan from to) (walk_cost links plan from before.0) cost _ e
                before.1 ∙ ap Some same,
          ))
          (λ past. same_most past)

  furthest_found : AreFound links plan drops → (to : Node) → IsFoundAt links plan to (furthest links plan drops to)
  furthest_found found to =
      greatest_keeps (IsFoundAt links plan to) (λ j. over links plan drops to (right j))
      (λ most j h. found_over found to (right j) most h) _ 0 links.count
      (greatest_keeps (IsFoundAt links plan to) (λ i. over links plan drops to (left i))
      (λ most i h. found_over found to (left i) most h) _ 0 links.count
      (found_over found to root (drop_at drops to) (found to)))

  furthest_least : (to : Node) → drop_at drops to ≤ furthest links plan drops to
  furthest_least to = grind (arith, greatest_from)

  -- no arc from one of the nodes goes further
  root_most : (to : Node) → over links plan drops to root ≤ furthest links plan drops to
  root_most to = grind (arith, greatest_from)

  left_most : (to : Node) (i : ℕ) → i < links.count → over links plan drops to (left i) ≤ furthest links plan drops to
  left_most to i within = omega (
    arith,
    greatest_from (λ j. over links plan drops to (right j))
        (greatest (λ i. over links plan drops to (left i))
        (max (drop_at drops to) (over links plan drops to root)) links.count) 0 links.count,
    greatest_at (λ i. over links plan drops to (left i))
        (max (drop_at drops to) (over links plan drops to root)) 0 links.count i
        (omega arith) (omega (arith, within)),
  )

  right_most : (to : Node) (j : ℕ) → j < links.count → over links plan drops to (right j) ≤ furthest links plan drops to
  right_most to j within =
      greatest_at (λ j. over links plan drops to (right j))
      (greatest (λ i. over links plan drops to (left i))
      (max (drop_at drops to) (over links plan drops to root)) links.count) 0 links.count j
      (omega arith) (omega (arith, within))

  left_is : (i : ℕ) → i < links.count → get_or (round links plan drops).left i 0 ≡ furthest links plan drops (left i)
  left_is i within = get_or-map-range_with_len (λ k. furthest links plan drops (left k)) 0 links.count i i 0
      within (omega arith)

  right_is : (j : ℕ) → j < links.count → get_or (round links plan drops).right j 0 ≡ furthest links plan drops (right j)
  right_is j within = get_or-map-range_with_len (λ k. furthest links plan drops (right k)) 0 links.count j j 0
      within (omega arith)

  left_size : length (round links plan drops).left ≡ links.count
  left_size = length-map (range_with_len 0 links.count) (λ i. furthest links plan drops (left i))
      ∙ length-range_with_len 0 links.count

  right_size : length (round links plan drops).right ≡ links.count
  right_size = length-map (range_with_len 0 links.count) (λ j. furthest links plan drops (right j))
      ∙ length-range_with_len 0 links.count

  round_found : AreFound links plan drops → AreFound links plan (round links plan drops)
  round_found found root = furthest_found found root
  round_found found (left i) = by_bound i links.count
      (λ within. subst (IsFoundAt links plan (left i)) (sym (left_is i within)) (furthest_found found (left i)))
      (λ past. (
        [],
        ap (λ k. Some (neg_ℤ (pos k)))
            (sym (get_or-eq_default (round links plan drops).left 0 (omega (arith, past, left_size)))),
      ))
  round_found found (right j) = by_bound j links.count
      (λ within. subst (IsFoundAt links plan (right j)) (sym (right_is j within)) (furthest_found found (right j)))
      (λ past. (
        [],
        ap (λ k. Some (neg_ℤ (pos k)))
            (sym (get_or-eq_default (round links plan drops).right 0 (omega (arith, past, right_size)))),
      ))

  pub round_searched : IsSearched links plan drops → IsSearched links plan (round links plan drops)
  round_searched known = grind (arith, left_size, right_size, round_found)

-- ---- depths

-- numbers that are no less, one by one
record AreLess (some other : List ℕ) : Type 0 where
  size : length some ≡ length other
  each : (k : ℕ) → at some k ≤ at other k

tail_less : (a b : ℕ) (some other : List ℕ) → AreLess (a ∷ some) (b ∷ other) → AreLess some other
tail_less a b some other less = record { size = omega (arith, less.size); each = λ k. less.each (suc k) }

sum_less : (some other : List ℕ) → AreLess some other → sum some ≤ sum other
sum_less [] other less = omega arith
sum_less (a ∷ some) [] less = absurd (omega (arith, less.size))
sum_less (a ∷ some) (b ∷ other) less =
    omega (
      arith,
      sum_by-cons (λ n. n) a some,
      sum_by-cons (λ n. n) b other,
      less.each 0,
      sum_less some other (tail_less a b some other less),
    )

sum_same : (some other : List ℕ) → AreLess some other → sum other ≤ sum some → (k : ℕ) → at some k ≡ at other k
sum_same [] [] less e k = refl
sum_same [] (b ∷ other) less e k = absurd (omega (arith, less.size))
sum_same (a ∷ some) [] less e k = absurd (omega (arith, less.size))
sum_same (a ∷ some) (b ∷ other) less e zero =
    omega (
      arith,
      sum_by-cons (λ n. n) a some,
      sum_by-cons (λ n. n) b other,
      less.each 0,
      sum_less some other (tail_less a b some other less),
      e,
    )
sum_same (a ∷ some) (b ∷ other) less e (suc k) =
    sum_same some other (tail_less a b some other less)
    (omega (arith, sum_by-cons (λ n. n) a some, sum_by-cons (λ n. n) b other, less.each 0, e)) k

module _ (links : Links) (plan : List (Option ℕ)) (drops : DropParts) (known : IsSearched links plan drops) where
  lefts_less : AreLess drops.left (round links plan drops).left
  lefts_less = record {
    size = known.over.left ∙ sym (left_size links plan drops);
    each = λ k. by_bound k links.count
        (λ within. omega (arith, left_is links plan drops k within, furthest_least links plan drops (left k)))
        (λ past. omega (arith, get_or-eq_default drops.left 0 {n = k} (omega (arith, past, known.over.left))));
  }

  rights_less : AreLess drops.right (round links plan drops).right
  rights_less = record {
    size = known.over.right ∙ sym (right_size links plan drops);
    each = λ k. by_bound k links.count
        (λ within. omega (arith, right_is links plan drops k within, furthest_least links plan drops (right k)))
        (λ past. omega (arith, get_or-eq_default drops.right 0 {n = k} (omega (arith, past, known.over.right))));
  }

  pub round_deeper : depth drops ≤ depth (round links plan drops)
  round_deeper = omega (
    arith,
    furthest_least links plan drops root,
    sum_less drops.left (round links plan drops).left lefts_less,
    sum_less drops.right (round links plan drops).right rights_less,
  )

  module _ (same : depth (round links plan drops) ≡ depth drops) where
    root_same : furthest links plan drops root ≡ drops.root
    root_same = omega (
      arith,
      same,
      furthest_least links plan drops root,
      sum_less drops.left (round links plan drops).left lefts_less,
      sum_less drops.right (round links plan drops).right rights_less,
    )

    left_same : (i : ℕ) → i < links.count → furthest links plan drops (left i) ≡ get_or drops.left i 0
    left_same i within = sym (left_is links plan drops i within)
        ∙ sym (sum_same drops.left (round links plan drops).left lefts_less (omega (
          arith,
          same,
          furthest_least links plan drops root,
          sum_less drops.right (round links plan drops).right rights_less,
        )) i)

    right_same : (j : ℕ) → j < links.count → furthest links plan drops (right j) ≡ get_or drops.right j 0
    right_same j within = sym (right_is links plan drops j within)
        ∙ sym (sum_same drops.right (round links plan drops).right rights_less (omega (
          arith,
          same,
          furthest_least links plan drops root,
          sum_less drops.left (round links plan drops).left lefts_less,
        )) j)

    -- an arc that is there goes no further
    kept_by : (number most : ℕ) (cost : Option ℤ) (exact : ℤ) → cost ≡ Some exact → over_arc number cost ≤ most
        → (pos number -ℤ exact) ≤ℤ pos most
    kept_by number most cost exact is less =
        not_below_most (pos number -ℤ exact) most (subst (λ at. over_arc number at ≤ most) is less)

    pair_kept : (i j : ℕ) → i < links.count → j < links.count → PairKept links drops i j
    pair_kept i j i_in j_in = split (links.gain i j) refl
      where
        split : (gain : Option ℤ) → links.gain i j ≡ gain
            → IfSome gain (λ value. (pos (get_or drops.left i 0) +ℤ value) ≤ℤ pos (get_or drops.right j 0))
        split None e = tt
        split (Some gain) e =
            let most = kept_by (get_or drops.left i 0) (furthest links plan drops (right j))
            (option_map neg_ℤ (links.gain i j))
            (neg_ℤ gain) (ap (option_map neg_ℤ) e) (left_most links plan drops (right j) i i_in) in
            omega (arith, ints, most, right_same j j_in)

    link_kept : (i j : ℕ) → i < links.count → j < links.count → next plan i ≡ Some j → LinkKept links drops i j
    link_kept i j i_in j_in is = split (links.gain i j) refl
      where
        split : (gain : Option ℤ) → links.gain i j ≡ gain
            → IfSome gain (λ value. pos (get_or drops.right j 0) ≤ℤ (pos (get_or drops.left i 0) +ℤ value))
        split None e = tt
        split (Some gain) e =
            let most = kept_by (get_or drops.right j 0) (furthest links plan drops (left i))
            (arc links plan (right j) (left i))
            gain (back_arc links plan i j is ∙ e) (right_most links plan drops (left i) j j_in) in
            omega (arith, ints, most, left_same i i_in)

    free_kept : (number most : ℕ) (b : Bool) → b ≡ true → over_arc number (free_arc b) ≤ most → number ≤ most
    free_kept number most b is less = grind arith

    next_kept : (i : ℕ) → i < links.count → ((j : ℕ) → next plan i ≡ Some j → j < links.count) → (at : Option ℕ)
        → next plan i ≡ at → NextKept links drops i at
    next_kept i i_in there None is = omega (
      arith,
      free_kept drops.root (furthest links plan drops (left i)) (nat_lt i links.count && not (is_some (next plan i)))
          (ap (λ b. b && not (is_some (next plan i))) (lt-ltb i links.count i_in) ∙ ap (λ at. not (is_some at)) is)
          (root_most links plan drops (left i)),
      left_same i i_in,
    )
    next_kept i i_in there (Some j) is = (
      omega (
        arith,
        free_kept (get_or drops.left i 0) (furthest links plan drops root) (is_some (next plan i)) (ap is_some is)
            (left_most links plan drops root i i_in),
        root_same,
      ),
      link_kept i j i_in (there j is) is,
    )

    root_kept : (j : ℕ) → j < links.count → (b : Bool) → is_next plan j ≡ b → RootKept drops j b
    root_kept j j_in true is = omega (
      arith,
      free_kept drops.root (furthest links plan drops (right j)) (is_next plan j) is
          (root_most links plan drops (right j)),
      right_same j j_in,
    )
    root_kept j j_in false is = omega (
      arith,
      free_kept (get_or drops.right j 0) (furthest links plan drops root) (nat_lt j links.count && not (is_next plan j))
          (ap (λ b. b && not (is_next plan j)) (lt-ltb j links.count j_in) ∙ ap not is)
          (right_most links plan drops root j j_in),
      root_same,
    )

    pub round_kept : ((i j : ℕ) → next plan i ≡ Some j → j < links.count) → AreKept links plan drops
    round_kept there i within = grind (arith, pair_kept, next_kept, root_kept)

-- ---- rounds until nothing changes

-- no number goes further than the plan gains
depth_gain : (links : Links) (plan : List (Option ℕ)) (drops : DropParts) → IsSearched links plan drops
    → depth drops ≤ (2 * links.count + 1) * unsigned_abs (plan_gain links plan)
depth_gain links plan drops known =
    let valid = known.certified.1 in
    let gain : unsigned_abs (plan_gain links plan) ≡ total known.certified.0 = ap unsigned_abs (sym valid.exact) in
    let each : (node : Node) → drop_at drops node ≤ total known.certified.0 = λ node.
    let walk = known.found node in
    let least = walk_least links plan known.certified.0 valid known.plan_is node walk.0
    (neg_ℤ (pos (drop_at drops node))) walk.1 in
    omega (arith, ints, least) in
    bounded drops.root (sum drops.left) (sum drops.right) links.count (total known.certified.0) gain (each root)
    (sum_most drops.left (total known.certified.0) (λ k. each (left k))) known.over.left
    (sum_most drops.right (total known.certified.0) (λ k. each (right k))) known.over.right
  where
    bounded : (r l s n t : ℕ) → unsigned_abs (plan_gain links plan) ≡ t → r ≤ t → l ≤ length drops.left * t
        → length drops.left ≡ n
        → s ≤ length drops.right * t → length drops.right ≡ n → r + l + s ≤ (2 * n + 1) * unsigned_abs
        (plan_gain links plan)
    bounded r l s n t gain rt lt ln st sn =
        let left_most : l ≤ n * t = subst (λ k. l ≤ k * t) ln lt in
        let right_most : s ≤ n * t = subst (λ k. s ≤ k * t) sn st in
        let whole : (2 * n + 1) * t ≡ n * t + n * t + t = omega arith in
        subst (λ g. r + l + s ≤ (2 * n + 1) * g) (sym gain) (omega (arith, whole, left_most, right_most, rt))

-- what is left behind all rounds
pub record IsSettled (links : Links) (plan : List (Option ℕ)) (drops : DropParts) : Type 0 where
  pub known : IsSearched links plan drops
  pub kept : AreKept links plan drops

settles : (links : Links) (plan : List (Option ℕ)) → ((i j : ℕ) → next plan i ≡ Some j → j < links.count)
    → (fuel : ℕ) (drops : DropParts)
    → IsSearched links plan drops → (2 * links.count + 1) * unsigned_abs (plan_gain links plan) < depth drops + fuel
    → IsSettled links plan (settled links plan fuel drops)
unfolding settled
settles links plan there zero drops known enough = absurd (omega (arith, enough, depth_gain links plan drops known))
settles links plan there (suc fuel) drops known enough =
    split (depth (round links plan drops) == depth drops) refl
    (λ more. settles links plan there fuel (round links plan drops) (round_searched links plan drops known) more)
  where
    split : (b : Bool) → (depth (round links plan drops) == depth drops) ≡ b
        → ((2 * links.count + 1) * unsigned_abs (plan_gain links plan) < depth (round links plan drops) + fuel
        → IsSettled links plan (settled links plan fuel (round links plan drops)))
        → IsSettled links plan (cond b drops (settled links plan fuel (round links plan drops)))
    split true e more = record { known = known; kept = round_kept links plan drops known (eqb-true _ _ e) there }
    split false e more = more (deeper (eqb-false _ _ e))
      where
        deeper : (depth (round links plan drops) ≡ depth drops → ⊥)
            → (2 * links.count + 1) * unsigned_abs (plan_gain links plan) < depth (round links plan drops) + fuel
        deeper other = omega (arith, enough, round_deeper links plan drops known, other)

-- rounds that are enough end
pub rounds_end : (links : Links) → AreLinks links → (plan : List (Option ℕ)) (potentials : PotentialParts)
    → IsPlan links plan
    → AreValid links plan potentials
    → IsSettled links plan (settled links plan
    (suc ((2 * links.count + 1) * unsigned_abs (plan_gain links plan))) (no_drops links.count))
rounds_end links sound plan potentials is valid =
    let first = searched_first links sound plan potentials is valid links.count refl (no_drops links.count) refl in
    settles links plan (λ i j e. (sound.within i j (is.follow i j e)).1)
    (suc ((2 * links.count + 1) * unsigned_abs (plan_gain links plan))) (no_drops links.count)
    first (omega arith)

-- the canonical potentials are canonical
pub canonical_is : (links : Links) → AreLinks links → (plan : List (Option ℕ)) (potentials : PotentialParts)
    → IsPlan links plan
    → AreValid links plan potentials → AreCanonical links plan (canonical links plan)
unfolding canonical
canonical_is links sound plan potentials is valid =
    let all = rounds_end links sound plan potentials is valid in
    settled_canonical links sound plan _ all.known all.kept

-- they are valid, and in their range
pub canonical_valid : (links : Links) → AreLinks links → (plan : List (Option ℕ)) (potentials : PotentialParts)
    → IsPlan links plan
    → AreValid links plan potentials → AreValid links plan (canonical links plan)
unfolding canonical
canonical_valid links sound plan potentials is valid =
    let all = rounds_end links sound plan potentials is valid in
    settled_valid links sound plan _ all.known all.kept

pub canonical_small : (links : Links) → AreLinks links → (plan : List (Option ℕ)) (potentials : PotentialParts)
    → IsPlan links plan → AreValid links plan potentials
    → ArePotentials (canonical links plan)
unfolding canonical
canonical_small links sound plan potentials is valid =
    let all = rounds_end links sound plan potentials is valid in
    settled_small links plan _ all.known sound

-- ---- there are no others

one_least : (links : Links) (plan : List (Option ℕ)) (node : Node) (a b : ℤ) → IsLeastCost links plan node a
    → IsLeastCost links plan node b → a ≡ b
one_least links plan node a b first second =
    let low = first.least second.walk b second.has_it in
    let high = second.least first.walk a first.has_it in
    omega (arith, ints, low, high)

pub same_numbers : (some other : List ℕ) → length some ≡ length other
    → ((k : ℕ) → k < length some → at some k ≡ at other k) → some ≡ other
same_numbers [] [] size each = refl
same_numbers [] (b ∷ other) size each = absurd (omega (arith, size))
same_numbers (a ∷ some) [] size each = absurd (omega (arith, size))
same_numbers (a ∷ some) (b ∷ other) size each =
    ap (λ one. one ∷ some) (each 0 (omega arith)) ∙ ap (λ rest. b ∷ rest)
    (same_numbers some other (omega (arith, size)) (λ k h. each (suc k) (omega (arith, h))))

pub one_canonical : (links : Links) (plan : List (Option ℕ)) (some other : PotentialParts)
    → AreCanonical links plan some
    → AreCanonical links plan other → some ≡ other
one_canonical links plan some other first second =
    let base = one_least links plan root first.base second.base first.base_least second.base_least in
    let us = same_numbers some.u other.u (first.over.each_u ∙ sym second.over.each_u)
    (λ k h. u_same base k (omega (arith, h, first.over.each_u))) in
    let vs = same_numbers some.v other.v (first.over.each_v ∙ sym second.over.each_v)
    (λ k h. v_same base k (omega (arith, h, first.over.each_v))) in
    let of_u : List ℕ → PotentialParts = λ u. record { u = u; v = some.v } in
    let of_v : List ℕ → PotentialParts = λ v. record { u = other.u; v = v } in
    ap of_u us ∙ ap of_v vs
  where
    as_numbers : {a b : ℕ} → pos a ≡ pos b → a ≡ b
    as_numbers e = omega (arith, ints, e)

    u_same : first.base ≡ second.base → (k : ℕ) → k < links.count → at some.u k ≡ at other.u k
    u_same base k within =
        let a = first.u k within in
        let b = second.u k within in
        let cost = one_least links plan (left k) a.0 b.0 a.1.0 b.1.0 in
        as_numbers (a.1.1 ∙ ap (λ c. int_max (pos 0) (c -ℤ first.base)) cost
        ∙ ap (λ c. int_max (pos 0) (b.0 -ℤ c)) base ∙ sym b.1.1)

    v_same : first.base ≡ second.base → (k : ℕ) → k < links.count → at some.v k ≡ at other.v k
    v_same base k within =
        let a = first.v k within in
        let b = second.v k within in
        let cost = one_least links plan (right k) a.0 b.0 a.1.0 b.1.0 in
        as_numbers (a.1.1 ∙ ap (λ c. int_max (pos 0) (first.base -ℤ c)) cost
        ∙ ap (λ c. int_max (pos 0) (c -ℤ b.0)) base ∙ sym b.1.1)

-- what is canonical is the value
pub told_canonical : (links : Links) → AreLinks links → (plan : List (Option ℕ)) (potentials : PotentialParts)
    → IsPlan links plan
    → AreValid links plan potentials → {E : Type 0} (result : Result PotentialParts E)
    → IfOk result (AreCanonical links plan) → IfOk result (λ made. made ≡ canonical links plan)
told_canonical links sound plan potentials is valid (Err why) least = tt
told_canonical links sound plan potentials is valid (Ok made) least =
    one_canonical links plan made (canonical links plan) least (canonical_is links sound plan potentials is valid)
