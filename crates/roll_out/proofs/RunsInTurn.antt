-- Runs that are read from the left.
use Rattle.plan_num.proofs.Common.{◌≡◌, ℕ, suc, ◌==◌, ◌-◌, ◌+◌, ◌<◌, ◌≤◌, arith, true, false, cond}
use Rattle.plan_num.proofs.Common.{List, [], ◌∷◌, ◌++◌, length, take, drop, get_or, refl, ap}
use Rattle.plan_num.proofs.Common.{append_assoc, drop_more, drop_all, take_more, take_all, eqb-true}
use Rattle.plan_num.proofs.Common.{cases_Bool}
use Rattle.event_tables.specs.declared.periodic_event.PeriodicEvent.{PeriodicEvent}
use Rattle.event_tables.proofs.Common.{same_run, before_runs}
use Rattle.event_tables.specs.PeriodicRuns.{runs_of}

-- events with the last of them before runs: the first run goes on with them where it agrees with
-- the last
abbrev pub onto : PeriodicEvent → List PeriodicEvent → List (List PeriodicEvent)
    → List (List PeriodicEvent)
onto last some ((next ∷ run) ∷ runs) =
    cond (same_run last next) ((some ++ next ∷ run) ∷ runs) (some ∷ (next ∷ run) ∷ runs)
onto last some runs = some ∷ runs

-- one event more
pub onto_more : (last next : PeriodicEvent) (some : List PeriodicEvent)
    (runs : List (List PeriodicEvent))
    → same_run last next ≡ true
    → onto last some (before_runs next runs) ≡ onto next (some ++ next ∷ []) runs
onto_more last next some [] same = rw same refl
onto_more last next some ([] ∷ runs) same = rw same refl
onto_more last next some ((event ∷ run) ∷ runs) same = grind (arith, cases_Bool, append_assoc)

-- an event that does not agree ends the run
pub onto_ends : (last next : PeriodicEvent) (some : List PeriodicEvent)
    (runs : List (List PeriodicEvent))
    → same_run last next ≡ false
    → onto last some (before_runs next runs) ≡ some ∷ before_runs next runs
onto_ends last next some [] other = rw other refl
onto_ends last next some ([] ∷ runs) other = rw other refl
onto_ends last next some ((event ∷ run) ∷ runs) other = grind arith

before_onto : (event : PeriodicEvent) (runs : List (List PeriodicEvent))
    → before_runs event runs ≡ onto event (event ∷ []) runs
before_onto event [] = refl
before_onto event ([] ∷ runs) = refl
before_onto event ((next ∷ run) ∷ runs) = refl

-- the first event begins a run
pub run_begins : (events : List PeriodicEvent) (d : PeriodicEvent) → 1 ≤ length events
    → runs_of events ≡ onto (get_or events 0 d) (take 1 events) (runs_of (drop 1 events))
unfolding runs_of
run_begins [] d some = absurd (omega (arith, some))
run_begins (event ∷ events) d some = before_onto event (runs_of events)

module _ (events : List PeriodicEvent) (d : PeriodicEvent) where
  module _ (i : ℕ) (here : 1 ≤ i) (inside : i < length events)
      (so_far : runs_of events ≡ onto (get_or events (i - 1) d) (take i events)
      (runs_of (drop i events))) where
    next_is : runs_of (drop i events) ≡ before_runs (get_or events i d)
        (runs_of (drop (i + 1) events))
    unfolding runs_of
    next_is = ap runs_of (drop_more events i d inside)

    -- it goes on with an event that agrees
    pub run_goes_on : same_run (get_or events (i - 1) d) (get_or events i d) ≡ true
        → runs_of events ≡ onto (get_or events (i + 1 - 1) d) (take (i + 1) events)
        (runs_of (drop (i + 1) events))
    run_goes_on same = grind (arith, get_or, next_is, onto_more, take_more)

    -- and ends at one that does not
    pub run_ends : same_run (get_or events (i - 1) d) (get_or events i d) ≡ false
        → runs_of events ≡ take i events ∷ runs_of (drop i events)
    run_ends other = grind (arith, get_or, next_is, onto_ends)

  -- or at the last event
  pub run_over : (i : ℕ) → length events ≤ i
      → runs_of events ≡ onto (get_or events (i - 1) d) (take i events) (runs_of (drop i events))
      → runs_of events ≡ take (length events) events ∷ runs_of (drop (length events) events)
  unfolding runs_of
  run_over i over so_far = grind (arith, get_or, drop_all, take_all)

-- no event makes no run
pub no_runs : (events : List PeriodicEvent) → (length events == 0) ≡ true → runs_of events ≡ []
unfolding runs_of
no_runs [] none = refl
no_runs (event ∷ events) none = absurd (omega (arith, eqb-true (suc (length events)) 0 none))
