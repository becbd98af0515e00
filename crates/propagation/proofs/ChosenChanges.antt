-- The changes that are chosen, one after the other.
use Rattle.plan_num.proofs.Common.{◌≡◌, ◌∙◌, ℕ, ℤ, zero, suc, ◌+◌, ◌<◌, ◌≤◌, Bool, true, false}
use Rattle.plan_num.proofs.Common.{cond, List, [], ◌∷◌, ◌++◌, length, map, filter, take, drop}
use Rattle.plan_num.proofs.Common.{get_or, Result, Ok, Err, IfOk, refl, ap, sym, arith}
use Rattle.plan_num.proofs.Common.{items_where_true, drop_all}
use Rattle.propagation.specs.declared.day_event.DayEvent.{DayEvent}
use Rattle.propagation.specs.declared.step.Activity.{Activity}
use Rattle.propagation.specs.LeastTimes.{least_times, time_at}
use Rattle.propagation.specs.Problems.{DelayProblem, planned_at}
use Rattle.propagation.specs.Waiting.{chosen_changes, kept_changes, waits}

pub none_left : {X : Type 0} (kept : List Bool) → items_where_true {X = X} kept [] ≡ []
none_left [] = refl
none_left (b ∷ kept) = refl

module _ {X : Type 0} where
  chosen_at : (i : ℕ) (kept : List Bool) (xs : List X) (d : X) → i < length xs
      → get_or kept i false ≡ true
      → items_where_true (drop i kept) (drop i xs)
      ≡ get_or xs i d ∷ items_where_true (drop (suc i) kept) (drop (suc i) xs)
  chosen_at i [] xs d inside is = let e : false ≡ true = is in absurd (cc)
  chosen_at i (b ∷ kept) [] d inside is = absurd (omega (arith, inside))
  chosen_at zero (true ∷ kept) (x ∷ xs) d inside is = refl
  chosen_at zero (false ∷ kept) (x ∷ xs) d inside is = let e : false ≡ true = is in absurd (cc)
  chosen_at (suc i) (b ∷ kept) (x ∷ xs) d inside is = chosen_at i kept xs d (omega (arith, inside)) is

  passed_at : (i : ℕ) (kept : List Bool) (xs : List X) → get_or kept i false ≡ false
      → items_where_true (drop i kept) (drop i xs) ≡ items_where_true (drop (suc i) kept) (drop (suc i) xs)
  passed_at zero [] xs is = refl
  passed_at (suc i) [] xs is = refl
  passed_at zero (b ∷ kept) [] is = sym (none_left kept)
  passed_at (suc i) (b ∷ kept) [] is = none_left (drop i kept) ∙ sym (none_left (drop (suc i) kept))
  passed_at zero (true ∷ kept) (x ∷ xs) is = let e : true ≡ false = is in absurd (cc)
  passed_at zero (false ∷ kept) (x ∷ xs) is = refl
  passed_at (suc i) (b ∷ kept) (x ∷ xs) is = passed_at i kept xs is

  -- the chosen ones of the first, and of one more
  pub taken_at : (i : ℕ) (kept : List Bool) (xs : List X) (d : X) → i < length xs
      → items_where_true kept (take (suc i) xs)
      ≡ items_where_true kept (take i xs) ++ cond (get_or kept i false) (get_or xs i d ∷ []) []
  taken_at i [] xs d inside = refl
  taken_at i (b ∷ kept) [] d inside = absurd (omega (arith, inside))
  taken_at zero (true ∷ kept) (x ∷ xs) d inside = ap (λ rest. x ∷ rest) (none_left kept)
  taken_at zero (false ∷ kept) (x ∷ xs) d inside = none_left kept
  taken_at (suc i) (true ∷ kept) (x ∷ xs) d inside =
      ap (λ rest. x ∷ rest) (taken_at i kept xs d (omega (arith, inside)))
  taken_at (suc i) (false ∷ kept) (x ∷ xs) d inside = taken_at i kept xs d (omega (arith, inside))

  module _ (i : ℕ) (kept : List Bool) (xs : List X) where
    abbrev left_from : ℕ → List X
    left_from i = items_where_true (drop i kept) (drop i xs)

    next : suc i ≡ i + 1
    next = omega arith

    pub chosen_more : (d : X) → i < length xs → get_or kept i false ≡ true
        → left_from i ≡ get_or xs i d ∷ left_from (i + 1)
    chosen_more d inside is =
        chosen_at i kept xs d inside is ∙ ap (λ j. get_or xs i d ∷ left_from j) next

    pub chosen_passed : get_or kept i false ≡ false → left_from i ≡ left_from (i + 1)
    chosen_passed is = passed_at i kept xs is ∙ ap left_from next

    pub chosen_done : length xs ≤ i → left_from i ≡ []
    chosen_done past = ap (items_where_true (drop i kept)) (drop_all i xs past) ∙ none_left (drop i kept)

-- those that pass a test
pub where_passing : {X : Type 0} (test : X → Bool) (xs : List X)
    → items_where_true (map test xs) xs ≡ filter test xs
where_passing test [] = refl
where_passing test (x ∷ xs) = grind (arith, where_passing test xs)

-- the changes that are kept are those that are chosen by the least times without any
pub kept_told : {A E : Type 0} (view : A → List Bool) (problem : DelayProblem) (wait : ℤ)
    (events : List DayEvent) (changes : List Activity) (alone : List ℕ) → events ≡ problem.events
    → changes ≡ problem.changes → alone ≡ least_times problem [] → (result : Result A E)
    → IfOk result (λ kept. view kept ≡ map (λ change. waits wait (time_at alone change.step.from + change.step.lower)
    (planned_at events change.step.to)) changes)
    → IfOk result (λ kept. chosen_changes problem (view kept) ≡ kept_changes problem wait)
unfolding kept_changes
kept_told view problem wait events changes alone e h a (Err error) told = tt
kept_told view problem wait events changes alone e h a (Ok kept) told = grind (arith, where_passing)
