-- What the entries of a region come to: a tree that certifies each cost up to that of the best
-- choice.
use Rattle.plan_num.proofs.Common.{◌≡◌, ℕ, ℤ, zero, suc, ◌≤◌, ◌+◌, ◌&&◌, ◌≤ℤ◌, cond, Bool, true}
use Rattle.plan_num.proofs.Common.{false, List, [], ◌∷◌, ◌++◌, length, get_or, Option, Some, None}
use Rattle.plan_num.proofs.Common.{ap, sym, ◌∙◌, refl, arith, subst, IsSome, int_le, zip, count_by}
use Rattle.plan_num.proofs.Common.{⊤, last_or, both_ways, ints, length-set, map-append}
use Rattle.plan_num.proofs.Common.{filter_map-append, position-Some, sum_by-cons, get_or-zip}
use Rattle.plan_num.proofs.Common.{length-zip}
use Rattle.std.proofs.lemmas.Bool.{and_parts as both}
use Rattle.propagation.specs.declared.step.Activity.{Activity}
use Rattle.propagation.proofs.Common.{is_broken, DelayProblem, IsForward}
use Rattle.waiting_decisions.specs.declared.decision.Decision.{Decision}
use Rattle.waiting_decisions.specs.declared.decision.Decision.TheVariants as decision
use Rattle.waiting_decisions.specs.declared.node.WaitNode.TheVariants as node
use Rattle.waiting_decisions.specs.Certified.{ChangeTree, TreeCertifies, fork, leaf, preorder}
use Rattle.waiting_decisions.specs.Choices.{Costs}
use Rattle.waiting_decisions.specs.Listings.{Choice, Entry, best_after, choice_in, cut_off, entries_by, entries_within}
use Rattle.waiting_decisions.specs.Listings.{entry_at, entry_by, holds_off, levels_of, node_of, nodes_of, split}
use Rattle.waiting_decisions.specs.Regions.{bound_of, decided, first_broken, is_free, is_free_at, times_in}
use Rattle.waiting_decisions.proofs.Bounds.{found_costs}

-- the best behind two lists of entries in a row
last_behind : {X : Type 0} (first : Option X) (xs ys : List X)
    → last_or first (xs ++ ys) ≡ last_or (last_or first xs) ys
last_behind first [] ys = refl
last_behind first (x ∷ xs) ys = last_behind (Some x) xs ys

pub best_behind : (best : Option Choice) (entries more : List Entry)
    → best_after best (entries ++ more) ≡ best_after (best_after best entries) more
best_behind best entries more = grind (arith, filter_map-append, last_behind)

-- a cost is at most that of a best choice, where there is one; and such a choice costs what it says
abbrev pub AtMost : ℤ → Option Choice → Type 0
AtMost cost None = ⊤
AtMost cost (Some best) = cost ≤ℤ best.cost

abbrev pub IsGood : DelayProblem → ℕ → Option Choice → Type 0
IsGood problem penalty None = ⊤
IsGood problem penalty (Some best) = Costs problem penalty best.kept best.cost

-- what entries of a region come to
pub record Visited (problem : DelayProblem) (penalty : ℕ) (region : List Decision)
    (best : Option Choice) (entries : List Entry) : Type 0 where
  pub tree : ChangeTree
  pub whole : preorder tree ≡ nodes_of entries
  pub shows : (cost : ℤ) → AtMost cost (best_after best entries)
      → TreeCertifies problem penalty cost region tree
  pub falls : (cost : ℤ) → AtMost cost (best_after best entries) → AtMost cost best
  pub good : IsGood problem penalty best → IsGood problem penalty (best_after best entries)
  pub there : IsSome (best_after best entries)

-- how many changes are free, where one less is
pub free_less : (region : List Decision) (change : ℕ) (as_what : Decision) → is_free as_what ≡ false
    → is_free_at region change ≡ true
    → count_by is_free (decided region change as_what) + 1 ≡ count_by is_free region
free_less [] change as_what none free = absurd (both_ways false refl free)
free_less (at ∷ region) zero as_what none free =
    let one = sum_by-cons (λ x. cond (is_free x) 1 0) as_what region in
    let two = sum_by-cons (λ x. cond (is_free x) 1 0) at region in
    let lost : cond {A = ℕ} (is_free as_what) 1 0 ≡ 0 = ap (λ b. cond {A = ℕ} b 1 0) none in
    let had : cond {A = ℕ} (is_free at) 1 0 ≡ 1 = ap (λ b. cond {A = ℕ} b 1 0) free in
    omega (arith, one, two, lost, had)
free_less (at ∷ region) (suc change) as_what none free =
    let rest = free_less region change as_what none free in
    let one = sum_by-cons (λ x. cond (is_free x) 1 0) at (decided region change as_what) in
    let two = sum_by-cons (λ x. cond (is_free x) 1 0) at region in
    omega (arith, rest, one, two)

-- the change by which a region is split is free there
pub split_free : (problem : DelayProblem) (region : List Decision) (change : ℕ)
    → first_broken problem region ≡ Some change → is_free_at region change ≡ true
split_free problem region change is =
    let none : Activity = record { id = 0; step = record { from = 0; to = 0; lower = 0; extra = 0 } } in
    let test : Decision × Activity → Bool = λ at. is_free at.0 && is_broken (times_in problem region) at.1 in
    let found = position-Some test (zip region problem.changes) change (decision.Dropped, none) is in
    let inside = length-zip region problem.changes in
    let at = get_or-zip region problem.changes change (decision.Dropped, none)
    (omega (arith, inside, found.0)) (omega (arith, inside, found.0)) in
    (both (is_free (get_or region change decision.Dropped))
    (is_broken (times_in problem region) (get_or problem.changes change none))
    (subst (λ x. test x ≡ true) at found.1)).0

pub le_of : (a b : ℤ) → int_le a b ≡ true → a ≤ℤ b
le_of a b h = grind (arith, ints)

le_from_not : (a b : ℤ) → int_le a b ≡ false → b ≤ℤ a
le_from_not a b h = grind (arith, ints)

off_bound : (best : Option Choice) (bound cost : ℤ) → holds_off best bound ≡ true → AtMost cost best
    → cost ≤ℤ bound
off_bound None bound cost off most = absurd (both_ways false refl off)
off_bound (Some best) bound cost off most =
    let h = le_of best.cost bound off in omega (arith, ints, h, most)

off_there : (best : Option Choice) (bound : ℤ) → holds_off best bound ≡ true → IsSome best
off_there None bound off = absurd (both_ways false refl off)
off_there (Some best) bound off = refl

below_best : (best : Option Choice) (bound cost : ℤ) → holds_off best bound ≡ false → cost ≤ℤ bound
    → AtMost cost best
below_best None bound cost off less = tt
below_best (Some best) bound cost off less =
    let h = le_from_not best.cost bound off in omega (arith, ints, h, less)

module _ (problem : DelayProblem) (forward : IsForward problem) (penalty : ℕ) where
  -- the entries below a split come to what they should
  abbrev Below : ℕ → (List Decision → Option Choice → List Entry) → Type 0
  Below levels below = (region : List Decision) (best : Option Choice)
      → length region ≡ length problem.changes → levels_of region ≤ levels
      → Visited problem penalty region best (below region best)

  step : (levels : ℕ) (below : List Decision → Option Choice → List Entry) → Below levels below
      → (region : List Decision) (best : Option Choice) → length region ≡ length problem.changes
      → levels_of region ≤ suc levels
      → Visited problem penalty region best
      (entries_by below region best (entry_at problem penalty region best))
  unfolding TreeCertifies preorder
  step levels below rec region best size enough =
      by (holds_off best (bound_of problem penalty region)) refl (first_broken problem region) refl
    where
      by : (off : Bool) → holds_off best (bound_of problem penalty region) ≡ off
          → (broken : Option ℕ) → first_broken problem region ≡ broken
          → Visited problem penalty region best (entries_by below region best
          (cond off cut_off (entry_by (choice_in problem penalty region) broken)))
      by true off broken is = record {
        tree = leaf;
        whole = refl;
        shows = λ cost most. off_bound best (bound_of problem penalty region) cost off most;
        falls = λ cost most. most;
        good = λ fine. fine;
        there = off_there best (bound_of problem penalty region) off;
      }
      by false off None is = record {
        tree = leaf;
        whole = refl;
        shows = λ cost most. most;
        falls = λ cost most. below_best best (bound_of problem penalty region) cost off most;
        good = λ fine. found_costs problem forward penalty region size is;
        there = refl;
      }
      by false off (Some change) is =
          let free = split_free problem region change is in
          let keeping = below (decided region change decision.Kept) best in
          let middle = best_after best keeping in
          let dropping = below (decided region change decision.Dropped) middle in
          let fewer = free_less region change decision.Kept refl free in
          let less = free_less region change decision.Dropped refl free in
          let one = rec (decided region change decision.Kept) best
          (length-set region change decision.Kept ∙ size) (omega (arith, fewer, enough)) in
          let two = rec (decided region change decision.Dropped) middle
          (length-set region change decision.Dropped ∙ size) (omega (arith, less, enough)) in
          let end : best_after best (split change ∷ keeping ++ dropping) ≡ best_after middle dropping =
          best_behind best keeping dropping in
          record {
            tree = fork change one.tree two.tree;
            whole = ap (λ nodes. node.Split change ∷ nodes)
                (ap (λ nodes. nodes ++ preorder two.tree) one.whole
                ∙ ap (λ nodes. nodes_of keeping ++ nodes) two.whole
                ∙ sym (map-append node_of keeping dropping));
            shows = λ cost most. let last : AtMost cost (best_after middle dropping) =
                subst (λ b. AtMost cost b) end most in
                (free, one.shows cost (two.falls cost last), two.shows cost last);
            falls = λ cost most. one.falls cost (two.falls cost (subst (λ b. AtMost cost b) end most));
            good = λ fine. subst (λ b. IsGood problem penalty b) (sym end) (two.good (one.good fine));
            there = subst (λ b. IsSome b) (sym end) two.there;
          }

  pub visited : (levels : ℕ) (region : List Decision) (best : Option Choice)
      → length region ≡ length problem.changes → levels_of region ≤ levels
      → Visited problem penalty region best (entries_within problem penalty levels region best)
  unfolding entries_within
  visited zero region best size enough = absurd (omega (arith, enough))
  visited (suc levels) region best size enough =
      step levels (entries_within problem penalty levels) (visited levels) region best size enough
