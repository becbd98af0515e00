-- The runs of events are all of them, each with some.
use Rattle.plan_num.proofs.Common.{◌≡◌, ℕ, ◌≤◌, arith, List, [], ◌∷◌, ◌++◌, length, refl, ap, ◌∙◌}
use Rattle.plan_num.proofs.Common.{flat_map, AllByRecursion, length-append}
use Rattle.event_tables.specs.declared.periodic_event.PeriodicEvent.{PeriodicEvent}
use Rattle.event_tables.proofs.Common.{before_runs}
use Rattle.event_tables.specs.PeriodicRuns.{runs_of}

abbrev pub whole_run : List PeriodicEvent → List PeriodicEvent
whole_run run = run

before_whole : (event : PeriodicEvent) (runs : List (List PeriodicEvent))
    → flat_map whole_run (before_runs event runs) ≡ event ∷ flat_map whole_run runs
before_whole event [] = refl
before_whole event ([] ∷ runs) = refl
before_whole event ((next ∷ run) ∷ runs) = grind arith

-- the runs of events are all of them
pub runs_whole : (events : List PeriodicEvent) → flat_map whole_run (runs_of events) ≡ events
unfolding runs_of
runs_whole [] = refl
runs_whole (event ∷ events) =
    before_whole event (runs_of events) ∙ ap (λ some. event ∷ some) (runs_whole events)

before_some : (event : PeriodicEvent) (runs : List (List PeriodicEvent))
    → AllByRecursion (λ (run : List PeriodicEvent). 1 ≤ length run) runs
    → AllByRecursion (λ (run : List PeriodicEvent). 1 ≤ length run) (before_runs event runs)
before_some event [] all = (omega arith, tt)
before_some event ([] ∷ runs) all = (omega arith, all)
before_some event ((next ∷ run) ∷ runs) all = grind arith

-- each run has an event
pub runs_some : (events : List PeriodicEvent)
    → AllByRecursion (λ (run : List PeriodicEvent). 1 ≤ length run) (runs_of events)
unfolding runs_of
runs_some [] = tt
runs_some (event ∷ events) = before_some event (runs_of events) (runs_some events)

-- and each has no more than all
pub runs_short : (runs : List (List PeriodicEvent)) (most : ℕ) → length (flat_map whole_run runs)
    ≤ most
    → AllByRecursion (λ (run : List PeriodicEvent). length run ≤ most) runs
runs_short [] most few = tt
runs_short (run ∷ runs) most few =
    let step = length-append run (flat_map whole_run runs) in
    (omega (arith, step, few), runs_short runs most (omega (arith, step, few)))

-- no more runs than events
pub runs_few : (runs : List (List PeriodicEvent))
    → AllByRecursion (λ (run : List PeriodicEvent). 1 ≤ length run) runs
    → length runs ≤ length (flat_map whole_run runs)
runs_few [] some = omega arith
runs_few (run ∷ runs) some = grind (arith, length-append, runs_few runs some.1)

-- what holds of all events holds of those of each run
pub runs_have : (P : PeriodicEvent → Type 0) (runs : List (List PeriodicEvent))
    → AllByRecursion P (flat_map whole_run runs)
    → AllByRecursion (λ (run : List PeriodicEvent). AllByRecursion P run) runs
runs_have P [] all = tt
runs_have P (run ∷ runs) all =
    let parts = split run (flat_map whole_run runs) all in (parts.0, runs_have P runs parts.1)
  where
    split : (xs ys : List PeriodicEvent) → AllByRecursion P (xs ++ ys) → AllByRecursion P xs
        × AllByRecursion P ys
    split [] ys all = (tt, all)
    split (x ∷ xs) ys all = let rest = split xs ys all.1 in ((all.0, rest.0), rest.1)
