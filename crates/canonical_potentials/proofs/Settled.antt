-- Numbers that no arc makes better are the least costs of walks, and their potentials are valid.
use Rattle.plan_num.proofs.Common.{◌≡◌, ℕ, ℤ, zero, suc, pos, neg_ℤ, ◌+◌, ◌-◌, ◌<◌, ◌≤◌, ◌+ℤ◌, ◌-ℤ◌}
use Rattle.plan_num.proofs.Common.{◌≤ℤ◌, ◌&&◌, nat_lt, not, is_some, Bool, true, false, cond, List}
use Rattle.plan_num.proofs.Common.{map, get_or, replicate, Option, Some, None, IfSome, option_map}
use Rattle.plan_num.proofs.Common.{unwrap_or, refl, ap, sym, ◌∙◌, subst, arith, int_max}
use Rattle.plan_num.proofs.Common.{get_or-eq_default, and_parts, ltb-true, not-true, ints}
use Rattle.plan_num.proofs.Common.{int_max_is, length-map, length-replicate, get_or-map}
use Rattle.plan_num.proofs.Common.{get_or_default, All-map, none-some, same_Some}
use Rattle.link_plans.proofs.Common.{next, is_next, is_trip, IsPlan, Links, AreLinks, some_of}
use Rattle.link_plans.proofs.Common.{next_found, followed, is_trip_same, PotentialParts, at}
use Rattle.link_plans.proofs.Common.{IsSmall, ArePotentials, AreOver, AreValid, by_bound}
use Rattle.link_plans.proofs.Common.{AreCovering, AreTight, tight_gains}
use Rattle.canonical_potentials.specs.Canonical.{AreCanonical}
use Rattle.canonical_potentials.specs.Drops.{DropParts, drop_at, AreDropsOver, IsSearched}
use Rattle.canonical_potentials.specs.Drops.{NextKept, RootKept, AreKept, potentials_by}
use Rattle.canonical_potentials.specs.Residual.{Node, root, left, right, arc, walk_cost, IsLeastCost}
use Rattle.canonical_potentials.proofs.Deeper.{walk_bound}
use Rattle.canonical_potentials.proofs.Shallow.{free_is, found_most}

-- ---- before all passes

zero_at : (n i : ℕ) → at (replicate n 0) i ≡ 0
zero_at zero i = refl
zero_at (suc n) zero = refl
zero_at (suc n) (suc i) = zero_at n i

pub searched_first : (links : Links) → AreLinks links → (plan : List (Option ℕ)) (potentials : PotentialParts)
    → IsPlan links plan
    → AreValid links plan potentials → (n : ℕ) → n ≡ links.count → (drops : DropParts)
    → drops ≡ record { root = 0; left = replicate n 0; right = replicate n 0 } → IsSearched links plan drops
searched_first links sound plan potentials is valid n counted drops drops_is = grind (
  arith,
  length-replicate,
  neg_ℤ,
  zero_at,
)

-- ---- behind all passes

module _ (links : Links) (sound : AreLinks links) (plan : List (Option ℕ)) (drops : DropParts)
    (plan_is : IsPlan links plan) (sized : AreDropsOver links.count drops) (kept : AreKept links plan drops) where
  abbrev n : ℕ
  n = links.count

  abbrev made : PotentialParts
  made = potentials_by drops

  pub u_at : (i : ℕ) → i < n → at made.u i ≡ drops.root - get_or drops.left i 0
  u_at i within = get_or-map (λ number. drops.root - number) drops.left i 0 0 (omega (arith, within, sized.left))

  pub v_at : (j : ℕ) → j < n → at made.v j ≡ get_or drops.right j 0 - drops.root
  v_at j within = get_or-map (λ number. number - drops.root) drops.right j 0 0 (omega (arith, within, sized.right))

  next_in : (i j : ℕ) → next plan i ≡ Some j → (i < n) × (j < n)
  next_in i j e = sound.within i j (plan_is.follow i j e)

  pub over_all : AreOver n made
  over_all = grind (arith, length-map)

  covered : (i j : ℕ) → IfSome (links.gain i j) (λ gain. gain ≤ℤ pos (at made.u i + at made.v j))
  covered i j = grind (arith, is_some, get_or, ints, u_at, v_at)

  -- what is known of a link of the plan
  linked : (i j : ℕ) → next plan i ≡ Some j → (gain : ℤ) → links.gain i j ≡ Some gain
      → gain ≡ pos (at made.u i + at made.v j)
  linked i j e gain has =
      let there = next_in i j e in
      let pair : (pos (get_or drops.left i 0) +ℤ gain) ≤ℤ pos (get_or drops.right j 0) =
      subst (λ some. IfSome some (λ value. (pos (get_or drops.left i 0) +ℤ value) ≤ℤ pos (get_or drops.right j 0))) has
      ((kept i there.0).pairs j there.1) in
      let both = subst (NextKept links drops i) e (kept i there.0).next_kept in
      let back : pos (get_or drops.right j 0) ≤ℤ (pos (get_or drops.left i 0) +ℤ gain) =
      subst (λ some. IfSome some
      (λ value. pos (get_or drops.right j 0) ≤ℤ (pos (get_or drops.left i 0) +ℤ value))) has both.1 in
      let high : drops.root ≤ get_or drops.right j 0 =
      subst (RootKept drops j) (next_found plan i j e) (kept j there.1).root_kept in
      omega (arith, ints, pair, back, both.0, high, u_at i there.0, v_at j there.1)

  plain : (k : ℕ) → k ≡ 0 + k
  plain k = omega arith

  covering : AreCovering links.gain 0 plan made.u made.v
  covering = grind (arith, over_all, covered, unwrap_or, plain, some_of, linked, ints)

  tight : AreTight links.gain 0 plan made.u made.v
  tight = record {
    linked = λ k j e. ap (λ i. unwrap_or (links.gain i j) (pos 0)) (sym (plain k))
        ∙ (let found = some_of (links.gain k j) (plan_is.follow k j e) in
        ap (λ some. unwrap_or some (pos 0)) found.1 ∙ linked k j e found.0 found.1);
    last = λ k h e.
        let within : k < links.count = omega (arith, h, plan_is.each) in
        let low = subst (NextKept links drops k) e (kept k within).next_kept in
        omega (arith, low, u_at k within);
    first = λ j h. by_bound j links.count
        (λ within.
        let low = subst (RootKept drops j) h (kept j within).root_kept in
        omega (arith, low, v_at j within))
        (λ past. get_or-eq_default made.v 0 (omega (arith, past, over_all.each_v)));
  }

  pub kept_valid : AreValid links plan made
  kept_valid = grind (arith, over_all, covered, tight_gains, covering, tight)

  -- ---- least costs

  height : Node → ℤ
  height node = neg_ℤ (pos (drop_at drops node))

  rises : (from to : Node) (cost : ℤ) → arc links plan from to ≡ Some cost → height to ≤ℤ (height from +ℤ cost)
  unfolding height
  rises root root cost e = absurd (none-some cost e)
  rises root (left i) cost e = grind arith
  rises root (right j) cost e =
      let free = free_is (is_next plan j) cost e in
      let found = followed plan j free.0 in
      let low = subst (RootKept drops j) free.0 (kept j (next_in found.0 j found.1).1).root_kept in
      omega (arith, ints, free.1, low)
  rises (left i) root cost e = grind (arith, free_is, is_some, some_of, next_in, ints)
  rises (left i) (left k) cost e = absurd (none-some cost e)
  rises (left i) (right j) cost e = over_pair (links.gain i j) refl e
    where
      over_pair : (gain : Option ℤ) → links.gain i j ≡ gain → option_map neg_ℤ gain ≡ Some cost
          → neg_ℤ (pos (get_or drops.right j 0)) ≤ℤ (neg_ℤ (pos (get_or drops.left i 0)) +ℤ cost)
      over_pair None f g = absurd (none-some cost g)
      over_pair (Some gain) f g =
          let there = sound.within i j (ap is_some f) in
          let pair : (pos (get_or drops.left i 0) +ℤ gain) ≤ℤ pos (get_or drops.right j 0) =
          subst (λ some. IfSome some
          (λ value. (pos (get_or drops.left i 0) +ℤ value) ≤ℤ pos (get_or drops.right j 0))) f
          ((kept i there.0).pairs j there.1) in
          let same : neg_ℤ gain ≡ cost = same_Some (neg_ℤ gain) cost g in
          omega (arith, ints, pair, same)
  rises (right j) root cost e =
      let free = free_is (nat_lt j n && not (is_next plan j)) cost e in
      let parts = and_parts (nat_lt j n) (not (is_next plan j)) free.0 in
      let low = subst (RootKept drops j) (not-true (is_next plan j) parts.1) (kept j (ltb-true j n parts.0)).root_kept in
      omega (arith, ints, free.1, low)
  rises (right j) (left i) cost e = over_back (is_trip j (next plan i)) refl e
    where
      over_back : (b : Bool) → is_trip j (next plan i) ≡ b → cond b (links.gain i j) None ≡ Some cost
          → neg_ℤ (pos (get_or drops.left i 0)) ≤ℤ (neg_ℤ (pos (get_or drops.right j 0)) +ℤ cost)
      over_back false f g = absurd (none-some cost g)
      over_back true f g =
          let is = is_trip_same j (next plan i) f in
          let there = next_in i j is in
          let both = subst (NextKept links drops i) is (kept i there.0).next_kept in
          let back : pos (get_or drops.right j 0) ≤ℤ (pos (get_or drops.left i 0) +ℤ cost) =
          subst (λ some. IfSome some
          (λ value. pos (get_or drops.right j 0) ≤ℤ (pos (get_or drops.left i 0) +ℤ value))) g both.1 in
          omega (arith, ints, back)
  rises (right j) (right k) cost e = absurd (none-some cost e)

  low_all : (node : Node) → height node ≤ℤ pos 0
  unfolding height
  low_all node = omega (arith, ints)

  -- a walk that was found costs the least
  pub least_of : (node : Node) (walk : List Node) → walk_cost links plan node walk ≡ Some
      (neg_ℤ (pos (drop_at drops node)))
      → IsLeastCost links plan node (neg_ℤ (pos (drop_at drops node)))
  unfolding height
  least_of node walk found = record {
    walk = walk;
    has_it = found;
    least = λ other more e. walk_bound links plan height low_all rises node other more e;
  }

pub greater : (a b : ℕ) → pos (a - b) ≡ int_max (pos 0) (neg_ℤ (pos b) -ℤ neg_ℤ (pos a))
greater a b = omega (arith, ints, int_max_is (pos 0) (neg_ℤ (pos b) -ℤ neg_ℤ (pos a)))

module _ (links : Links) (sound : AreLinks links) (plan : List (Option ℕ)) (drops : DropParts)
    (known : IsSearched links plan drops) (kept : AreKept links plan drops) where
  pub settled_valid : AreValid links plan (potentials_by drops)
  settled_valid = kept_valid links sound plan drops known.plan_is known.over kept

  least_at : (node : Node) → IsLeastCost links plan node (neg_ℤ (pos (drop_at drops node)))
  least_at node = least_of links sound plan drops known.plan_is known.over kept node (known.found node).0
      (known.found node).1

  pub settled_canonical : AreCanonical links plan (potentials_by drops)
  settled_canonical = record {
    over = over_all links sound plan drops known.plan_is known.over kept;
    base = neg_ℤ (pos drops.root);
    base_least = least_at root;
    u = λ i within. (
      neg_ℤ (pos (get_or drops.left i 0)),
      (
        least_at (left i),
        ap pos (u_at links sound plan drops known.plan_is known.over kept i within)
            ∙ greater drops.root (get_or drops.left i 0),
      ),
    );
    v = λ j within. (
      neg_ℤ (pos (get_or drops.right j 0)),
      (
        least_at (right j),
        ap pos (v_at links sound plan drops known.plan_is known.over kept j within)
            ∙ greater (get_or drops.right j 0) drops.root,
      ),
    );
  }

-- their potentials are in their range
pub settled_small : (links : Links) (plan : List (Option ℕ)) (drops : DropParts) → IsSearched links plan drops
    → AreLinks links → ArePotentials (potentials_by drops)
settled_small links plan drops known are = record {
  each = length-map drops.left (λ number. drops.root - number) ∙ known.over.left ∙ sym known.over.right
      ∙ sym (length-map drops.right (λ number. number - drops.root));
  u_small = All-map IsSmall (λ number. drops.root - number) drops.left
      (λ k d h. omega (arith, found_most links plan drops are known root));
  v_small = All-map IsSmall (λ number. number - drops.root) drops.right
      (λ k d h.
      let small = found_most links plan drops are known (right k) in
      let same = get_or_default drops.right k d 0 h in
      omega (arith, small, same));
}

-- potentials that are made of numbers
pub made_is : (drops : DropParts) (u v : List ℕ) → u ≡ map (λ number. drops.root - number) drops.left
    → v ≡ map (λ number. number - drops.root) drops.right → record { u = u; v = v } ≡ potentials_by drops
made_is drops u v u_is v_is = grind arith
