-- The bound of a region holds: no set of changes in it, with any feasible times, comes to less.
use Rattle.plan_num.proofs.Common.{◌≡◌, ℕ, ℤ, zero, suc, ◌<◌, ◌≤◌, ◌+◌, ◌*◌, ◌&&◌, ◌+ℤ◌, ◌≤ℤ◌, cond}
use Rattle.plan_num.proofs.Common.{nat_lt, not, Bool, true, false, List, [], ◌∷◌, ◌++◌, length, map}
use Rattle.plan_num.proofs.Common.{pos, Some, None, ◌∙◌, refl, arith, ◌⊎◌, inl, inr}
use Rattle.plan_num.proofs.Common.{mul-le-mul_left, All, Contains, filter, zip, position, replicate}
use Rattle.plan_num.proofs.Common.{fold, items_where_true, list_all, prefix_len, both_ways}
use Rattle.plan_num.proofs.Common.{ltb-false, cases_Bool, Decides-eqb, both_true, ints, length-map}
use Rattle.plan_num.proofs.Common.{length-replicate, length-set, All-append, All-cons}
use Rattle.plan_num.proofs.Common.{All-contains_itself, All-map, sum_by-cons}
use Rattle.std.proofs.lemmas.Bool.{and_parts as both}
use Rattle.std.proofs.lemmas.List.Elements.{All-tail as behind}
use Rattle.std.proofs.lemmas.List.Elements.{All-head as head_of}
use Rattle.propagation.specs.declared.day_event.DayEvent.{DayEvent}
use Rattle.propagation.specs.declared.step.Activity.{Activity}
use Rattle.propagation.specs.declared.step.Step.{Step}
use Rattle.propagation.proofs.Common.{IsFeasible, IsLeast, asked, time_at, arrives, delay_at}
use Rattle.propagation.proofs.Common.{is_broken, lateness, AreChanges, DelayProblem, IsForward}
use Rattle.propagation.proofs.Common.{steps_with, chosen_changes, least_times_are_least}
use Rattle.waiting_decisions.specs.declared.decision.Decision.{Decision}
use Rattle.waiting_decisions.specs.declared.decision.Decision.TheVariants as decision
use Rattle.waiting_decisions.specs.declared.node.WaitNode.{WaitNode}
use Rattle.waiting_decisions.specs.Certified.{Certifies, ChangeTree, TreeCertifies, fork, leaf}
use Rattle.waiting_decisions.specs.Choices.{Costs, CostsAtLeast, dropped_count, times_of, total}
use Rattle.waiting_decisions.specs.Regions.{allows, bound_of, decided, first_broken, greatest_set, is_dropped, is_free}
use Rattle.waiting_decisions.specs.Regions.{is_free_at, least_set, lies_in, open_region, times_in}

mul_grows : (factor less more : ℕ) → less ≤ more → factor * less ≤ factor * more
mul_grows factor less more fewer = mul-le-mul_left factor fewer

-- ---- later times delay arrivals more

abbrev late : ℤ → DayEvent × ℕ → ℤ
late sum timed = sum +ℤ lateness timed

sums_grow : (events : List DayEvent) (times others : List ℕ) (low high : ℤ) → low ≤ℤ high
    → length times ≡ length events → length others ≡ length events
    → ((event : ℕ) → event < length events → time_at times event ≤ time_at others event)
    → fold late low (filter arrives (zip events times))
    ≤ℤ fold late high (filter arrives (zip events others))
sums_grow [] times others low high less one two later = less
sums_grow (event ∷ events) [] others low high less one two later = absurd (omega (arith, one))
sums_grow (event ∷ events) (time ∷ times) [] low high less one two later = absurd (omega (arith, two))
sums_grow (event ∷ events) (time ∷ times) (other ∷ others) low high less one two later =
    let here : time ≤ other = later 0 (omega arith) in
    let rest = λ (low high : ℤ) (less : low ≤ℤ high). sums_grow events times others low high less
    (omega (arith, one)) (omega (arith, two)) (λ k inside. later (suc k) (omega (arith, inside))) in
    elim (cases_Bool event.arrives) [
      | inl is ↦ rw is (rest (late low (event, time)) (late high (event, other))
          (omega (arith, ints, less, here)))
      | inr is ↦ rw is (rest low high less)
    ]

-- no event is earlier, so the delay of all arrivals is no less
delay_grows : (problem : DelayProblem) (times others : List ℕ)
    → length times ≡ length problem.events → length others ≡ length problem.events
    → ((event : ℕ) → event < length problem.events → time_at times event ≤ time_at others event)
    → delay_at problem.events times ≤ℤ delay_at problem.events others
delay_grows problem times others one two later =
    sums_grow problem.events times others (pos 0) (pos 0) (omega (arith, ints)) one two later

-- ---- what is feasible where more changes are kept is feasible where fewer are

-- one set keeps all that another keeps
data IsWithin : List Bool → List Bool → Type 0 where
  no_more : IsWithin [] []
  same : (is : Bool) (fewer more : List Bool) → IsWithin fewer more → IsWithin (is ∷ fewer) (is ∷ more)
  one_more : (fewer more : List Bool) → IsWithin fewer more → IsWithin (false ∷ fewer) (true ∷ more)

picked_fewer : {X : Type 0} (P : X → Type 0) (fewer more : List Bool) (xs : List X)
    → IsWithin fewer more → All P (items_where_true more xs) → All P (items_where_true fewer xs)
picked_fewer P _ _ xs no_more all = all
picked_fewer P _ _ [] (same is fewer more within) all = all
picked_fewer P _ _ (x ∷ xs) (same true fewer more within) all =
    All-cons P x (items_where_true fewer xs) (head_of P x (items_where_true more xs) all)
    (picked_fewer P fewer more xs within (behind P x (items_where_true more xs) all))
picked_fewer P _ _ (x ∷ xs) (same false fewer more within) all =
    picked_fewer P fewer more xs within all
picked_fewer P _ _ [] (one_more fewer more within) all = all
picked_fewer P _ _ (x ∷ xs) (one_more fewer more within) all =
    picked_fewer P fewer more xs within (behind P x (items_where_true more xs) all)

-- a set in a region keeps all that the region's least set keeps, and drops all that the greatest
-- set drops
abbrev each_allowed : List Decision → List Bool → Bool
each_allowed region kept = list_all (λ at. allows at.0 at.1) (zip region kept)

within_by : (region : List Decision) (kept : List Bool) → length kept ≡ length region
    → each_allowed region kept ≡ true → IsWithin (least_set region) kept
within_by [] [] size allowed = no_more
within_by [] (is ∷ kept) size allowed = absurd (omega (arith, size))
within_by (at ∷ region) [] size allowed = absurd (omega (arith, size))
within_by (decision.Free ∷ region) (true ∷ kept) size allowed =
    one_more (least_set region) kept (within_by region kept (omega (arith, size)) allowed)
within_by (decision.Free ∷ region) (false ∷ kept) size allowed =
    same false (least_set region) kept (within_by region kept (omega (arith, size)) allowed)
within_by (decision.Kept ∷ region) (true ∷ kept) size allowed =
    same true (least_set region) kept (within_by region kept (omega (arith, size)) allowed)
within_by (decision.Kept ∷ region) (false ∷ kept) size allowed = absurd (both_ways false refl allowed)
within_by (decision.Dropped ∷ region) (true ∷ kept) size allowed = absurd (both_ways false refl allowed)
within_by (decision.Dropped ∷ region) (false ∷ kept) size allowed =
    same false (least_set region) kept (within_by region kept (omega (arith, size)) allowed)

pub parts_of : (region : List Decision) (kept : List Bool) → lies_in region kept ≡ true
    → (length kept ≡ length region) × (each_allowed region kept ≡ true)
parts_of region kept lies = grind arith

within : (region : List Decision) (kept : List Bool) → lies_in region kept ≡ true
    → IsWithin (least_set region) kept
within region kept lies = let parts = parts_of region kept lies in within_by region kept parts.0 parts.1

-- how many are dropped
count_cons : (is : Bool) (kept : List Bool)
    → dropped_count (is ∷ kept) ≡ cond (not is) 1 0 + dropped_count kept
count_cons is kept = sum_by-cons (λ x. cond (not x) 1 0) is kept

dropped_least : (region : List Decision) (kept : List Bool) → length kept ≡ length region
    → each_allowed region kept ≡ true → dropped_count (greatest_set region) ≤ dropped_count kept
dropped_least [] [] size allowed = omega arith
dropped_least [] (is ∷ kept) size allowed = absurd (omega (arith, size))
dropped_least (at ∷ region) [] size allowed = absurd (omega (arith, size))
dropped_least (decision.Free ∷ region) (is ∷ kept) size allowed =
    grind (arith, count_cons, dropped_least region kept (omega (arith, size)) allowed)
dropped_least (decision.Kept ∷ region) (true ∷ kept) size allowed =
    grind (arith, count_cons, dropped_least region kept (omega (arith, size)) allowed)
dropped_least (decision.Kept ∷ region) (false ∷ kept) size allowed = absurd (both_ways false refl allowed)
dropped_least (decision.Dropped ∷ region) (true ∷ kept) size allowed = absurd (both_ways false refl allowed)
dropped_least (decision.Dropped ∷ region) (false ∷ kept) size allowed =
    let rest = dropped_least region kept (omega (arith, size)) allowed in
    let one : dropped_count (false ∷ greatest_set region) ≡ 1 + dropped_count (greatest_set region) =
    count_cons false (greatest_set region) in
    let two : dropped_count (false ∷ kept) ≡ 1 + dropped_count kept = count_cons false kept in
    omega (arith, rest, one, two)

-- what holds of all items of two lists in a row, and of what items are turned into
front : {X : Type 0} (P : X → Type 0) (xs ys : List X) → All P (xs ++ ys) → All P xs
front P [] ys all = λ k d inside. absurd (omega (arith, inside))
front P (x ∷ xs) ys all =
    All-cons P x xs (head_of P x (xs ++ ys) all) (front P xs ys (behind P x (xs ++ ys) all))

back : {X : Type 0} (P : X → Type 0) (xs ys : List X) → All P (xs ++ ys) → All P ys
back P [] ys all = all
back P (x ∷ xs) ys all = back P xs ys (behind P x (xs ++ ys) all)

unmapped : {X Y : Type 0} (P : X → Type 0) (f : Y → X) (ys : List Y) → All P (map f ys)
    → All (λ y. P (f y)) ys
unmapped P f [] all = λ k d inside. absurd (omega (arith, inside))
unmapped P f (y ∷ ys) all = All-cons (λ y. P (f y)) y ys (head_of P (f y) (map f ys) all)
    (unmapped P f ys (behind P (f y) (map f ys) all))

abbrev step_of : Activity → Step
step_of activity = activity.step

-- what holds of the steps where some changes are kept holds of those where others are, where it
-- holds of these
steps_by : (problem : DelayProblem) (P : Step → Type 0) (kept others : List Activity)
    → (All (λ change. P change.step) kept → All (λ change. P change.step) others)
    → All P (steps_with problem kept) → All P (steps_with problem others)
steps_by problem P kept others turn all =
    let activities = unmapped P step_of (problem.rides ++ kept)
    (front P (map step_of (problem.rides ++ kept)) problem.turns all) in
    All-append P (map step_of (problem.rides ++ others)) problem.turns
    (All-map P step_of (problem.rides ++ others)
    (All-append (λ activity. P activity.step) problem.rides others
    (front (λ activity. P activity.step) problem.rides kept activities)
    (turn (back (λ activity. P activity.step) problem.rides kept activities))))
    (back P (map step_of (problem.rides ++ kept)) problem.turns all)

feasible_by : (problem : DelayProblem) (kept others : List Activity) (times : List ℕ)
    → (All (λ change. asked times change.step ≤ time_at times change.step.to) kept
    → All (λ change. asked times change.step ≤ time_at times change.step.to) others)
    → IsFeasible problem kept times → IsFeasible problem others times
feasible_by problem kept others times turn feasible = record {
  each = feasible.each;
  earliest = feasible.earliest;
  steps = steps_by problem (λ step. asked times step ≤ time_at times step.to) kept others turn
      feasible.steps;
}

-- changes that are chosen are changes
picked : {X : Type 0} (P : X → Type 0) (kept : List Bool) (xs : List X) → All P xs
    → All P (items_where_true kept xs)
picked P [] xs all = λ k d inside. absurd (omega (arith, inside))
picked P (is ∷ kept) [] all = λ k d inside. absurd (omega (arith, inside))
picked P (true ∷ kept) (x ∷ xs) all =
    All-cons P x (items_where_true kept xs) (head_of P x xs all) (picked P kept xs (behind P x xs all))
picked P (false ∷ kept) (x ∷ xs) all = picked P kept xs (behind P x xs all)

pub chosen_are : (problem : DelayProblem) (kept : List Bool)
    → AreChanges problem (chosen_changes problem kept)
chosen_are problem kept =
    picked (Contains problem.changes) kept problem.changes (All-contains_itself problem.changes)

-- where no item is found, none passes the test
cond_none : {X : Type 0} (is : Bool) (x : X) → cond is (Some x) None ≡ None → is ≡ false
cond_none true x h = cc
cond_none false x h = refl

none_past : {X : Type 0} (test : X → Bool) (xs : List X)
    → length xs ≤ prefix_len (λ x. not (test x)) xs → All (λ x. test x ≡ false) xs
none_past test [] less = λ k d inside. absurd (omega (arith, inside))
none_past test (x ∷ xs) less = elim (cases_Bool (test x)) [
  | inl is ↦ absurd (omega (arith, rw is at less))
  | inr is ↦ All-cons (λ x. test x ≡ false) x xs is (none_past test xs (omega (arith, rw is at less)))
]

none_passes : {X : Type 0} (test : X → Bool) (xs : List X) → position test xs ≡ None
    → All (λ x. test x ≡ false) xs
none_passes test xs none = grind (arith, none_past, ltb-false, cond_none, nat_lt)

-- the greatest set of a region lies in it
greatest_allowed : (region : List Decision) → each_allowed region (greatest_set region) ≡ true
greatest_allowed [] = refl
greatest_allowed (decision.Free ∷ region) = greatest_allowed region
greatest_allowed (decision.Kept ∷ region) = greatest_allowed region
greatest_allowed (decision.Dropped ∷ region) = greatest_allowed region

lies_of : (region : List Decision) (kept : List Bool) → length kept ≡ length region
    → each_allowed region kept ≡ true → lies_in region kept ≡ true
lies_of region kept size allowed =
    both_true ((Decides-eqb (length kept) (length region)).1 size) allowed

-- what holds of the least set, and of each free change that is not broken, holds of the greatest
-- set
greatest_fits : (P : Activity → Type 0) (test : Activity → Bool)
    → ((change : Activity) → test change ≡ false → P change)
    → (region : List Decision) (changes : List Activity)
    → All (λ at. (is_free at.0 && test at.1) ≡ false) (zip region changes)
    → All P (items_where_true (least_set region) changes)
    → All P (items_where_true (greatest_set region) changes)
greatest_fits P test fits [] changes none all = all
greatest_fits P test fits (decision.Free ∷ region) [] none all = all
greatest_fits P test fits (decision.Kept ∷ region) [] none all = all
greatest_fits P test fits (decision.Dropped ∷ region) [] none all = all
greatest_fits P test fits (decision.Free ∷ region) (x ∷ xs) none all =
    All-cons P x (items_where_true (greatest_set region) xs)
    (fits x (head_of (λ at. (is_free at.0 && test at.1) ≡ false) (decision.Free, x) (zip region xs) none))
    (greatest_fits P test fits region xs
    (behind (λ at. (is_free at.0 && test at.1) ≡ false) (decision.Free, x) (zip region xs) none) all)
greatest_fits P test fits (decision.Kept ∷ region) (x ∷ xs) none all =
    All-cons P x (items_where_true (greatest_set region) xs)
    (head_of P x (items_where_true (least_set region) xs) all)
    (greatest_fits P test fits region xs
    (behind (λ at. (is_free at.0 && test at.1) ≡ false) (decision.Kept, x) (zip region xs) none)
    (behind P x (items_where_true (least_set region) xs) all))
greatest_fits P test fits (decision.Dropped ∷ region) (x ∷ xs) none all =
    greatest_fits P test fits region xs
    (behind (λ at. (is_free at.0 && test at.1) ≡ false) (decision.Dropped, x) (zip region xs) none) all

-- ---- a set lies in one part of a region

cover : (region : List Decision) (kept : List Bool) (change : ℕ) → is_free_at region change ≡ true
    → each_allowed region kept ≡ true
    → (each_allowed (decided region change decision.Kept) kept ≡ true)
    ⊎ (each_allowed (decided region change decision.Dropped) kept ≡ true)
cover [] kept change free allowed = absurd (both_ways false refl free)
cover (at ∷ region) [] zero free allowed = inl refl
cover (at ∷ region) [] (suc change) free allowed = inl refl
cover (decision.Free ∷ region) (true ∷ kept) zero free allowed = inl allowed
cover (decision.Free ∷ region) (false ∷ kept) zero free allowed = inr allowed
cover (decision.Kept ∷ region) (is ∷ kept) zero free allowed = absurd (both_ways false refl free)
cover (decision.Dropped ∷ region) (is ∷ kept) zero free allowed = absurd (both_ways false refl free)
cover (at ∷ region) (is ∷ kept) (suc change) free allowed =
    let parts = both (allows at is) (each_allowed region kept) allowed in
    by (cover region kept change free parts.1) parts.0
  where
    by : (each_allowed (decided region change decision.Kept) kept ≡ true)
        ⊎ (each_allowed (decided region change decision.Dropped) kept ≡ true) → allows at is ≡ true
        → (each_allowed (decided (at ∷ region) (suc change) decision.Kept) (is ∷ kept) ≡ true)
        ⊎ (each_allowed (decided (at ∷ region) (suc change) decision.Dropped) (is ∷ kept) ≡ true)
    by (inl rest) one = inl (both_true one rest)
    by (inr rest) one = inr (both_true one rest)

pub parts_cover : (region : List Decision) (change : ℕ) (kept : List Bool)
    → is_free_at region change ≡ true → lies_in region kept ≡ true
    → (lies_in (decided region change decision.Kept) kept ≡ true)
    ⊎ (lies_in (decided region change decision.Dropped) kept ≡ true)
parts_cover region change kept free lies = grind (arith, parts_of, cover, length-set, lies_of)

-- every set lies in the region in which nothing is decided
open_allowed : (kept : List Bool) → each_allowed (replicate (length kept) decision.Free) kept ≡ true
open_allowed [] = refl
open_allowed (is ∷ kept) = open_allowed kept

open_holds : (problem : DelayProblem) (kept : List Bool) → length kept ≡ length problem.changes
    → lies_in (open_region problem) kept ≡ true
open_holds problem kept size = grind (arith, lies_of, length-replicate, open_allowed)

module _ (problem : DelayProblem) (forward : IsForward problem) where
  -- the times of a set are the least ones
  least_of : (kept : List Bool) → IsLeast problem (chosen_changes problem kept) (times_of problem kept)
  least_of kept = least_times_are_least problem (chosen_changes problem kept) forward (chosen_are problem kept)

  -- no event of a region's times is later than in any feasible times of a set in it
  no_later : (region : List Decision) (kept : List Bool) (times : List ℕ) → lies_in region kept ≡ true
      → IsFeasible problem (chosen_changes problem kept) times → (event : ℕ)
      → event < length problem.events → time_at (times_in problem region) event ≤ time_at times event
  no_later region kept times lies feasible =
      (least_of (least_set region)).least times (feasible_by problem (chosen_changes problem kept)
      (chosen_changes problem (least_set region)) times
      (picked_fewer (λ change. asked times change.step ≤ time_at times change.step.to)
      (least_set region) kept problem.changes (within region kept lies)) feasible)

  pub bound_holds : (penalty : ℕ) (region : List Decision) (kept : List Bool) (times : List ℕ)
      → lies_in region kept ≡ true → IsFeasible problem (chosen_changes problem kept) times
      → bound_of problem penalty region ≤ℤ total problem penalty kept times
  bound_holds penalty region kept times lies feasible =
      let parts = parts_of region kept lies in
      let delay = delay_grows problem (times_in problem region) times
      (least_of (least_set region)).feasible.each feasible.each
      (no_later region kept times lies feasible) in
      let dropped = dropped_least region kept parts.0 parts.1 in
      let fine = mul_grows penalty (dropped_count (greatest_set region)) (dropped_count kept) dropped in
      omega (arith, ints, delay, fine)

  -- what is found in a region costs its bound
  pub found_costs : (penalty : ℕ) (region : List Decision) → length region ≡ length problem.changes
      → first_broken problem region ≡ None
      → Costs problem penalty (greatest_set region) (bound_of problem penalty region)
  found_costs penalty region size none = record {
    each = length-map region (λ at. not (is_dropped at)) ∙ size;
    times = times_in problem region;
    least = record {
      feasible = feasible_by problem (chosen_changes problem (least_set region))
          (chosen_changes problem (greatest_set region)) (times_in problem region)
          (greatest_fits (λ change. asked (times_in problem region) change.step
          ≤ time_at (times_in problem region) change.step.to) (is_broken (times_in problem region))
          (λ change fine. ltb-false (time_at (times_in problem region) change.step.to)
          (asked (times_in problem region) change.step) fine) region problem.changes
          (none_passes (λ at. is_free at.0 && is_broken (times_in problem region) at.1)
          (zip region problem.changes) none))
          (least_of (least_set region)).feasible;
      least = λ others feasible event inside. no_later region (greatest_set region) others
          (lies_of region (greatest_set region) (length-map region (λ at. not (is_dropped at)))
          (greatest_allowed region)) feasible event inside;
    };
    sum = refl;
  }

  -- what a tree shows over a region holds of each set in it
  tree_holds : (penalty : ℕ) (cost : ℤ) (tree : ChangeTree) (region : List Decision)
      → TreeCertifies problem penalty cost region tree → (kept : List Bool) (times : List ℕ)
      → lies_in region kept ≡ true → IsFeasible problem (chosen_changes problem kept) times
      → cost ≤ℤ total problem penalty kept times
  unfolding TreeCertifies
  tree_holds penalty cost leaf region shows kept times lies feasible =
      let bound = bound_holds penalty region kept times lies feasible in omega (arith, ints, shows, bound)
  tree_holds penalty cost (fork change keeping dropping) region shows kept times lies feasible =
      by (parts_cover region change kept shows.0 lies)
      (λ part. tree_holds penalty cost keeping (decided region change decision.Kept) shows.1 kept times part feasible)
      (λ part. tree_holds penalty cost dropping
      (decided region change decision.Dropped) shows.2 kept times part feasible)
    where
      by : (lies_in (decided region change decision.Kept) kept ≡ true)
          ⊎ (lies_in (decided region change decision.Dropped) kept ≡ true)
          → (lies_in (decided region change decision.Kept) kept ≡ true → cost ≤ℤ total problem penalty kept times)
          → (lies_in (decided region change decision.Dropped) kept ≡ true → cost ≤ℤ total problem penalty kept times)
          → cost ≤ℤ total problem penalty kept times
      by (inl part) one two = one part
      by (inr part) one two = two part

  pub certified_holds : (penalty : ℕ) (cost : ℤ) (nodes : List WaitNode)
      → Certifies problem penalty cost nodes → CostsAtLeast problem penalty cost
  certified_holds penalty cost nodes certifies = grind (arith, tree_holds, open_holds)
