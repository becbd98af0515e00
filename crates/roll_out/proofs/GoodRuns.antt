-- Runs and activities that keep the rules of runs.
use Rattle.plan_num.proofs.Common.{◌≡◌, ℕ, zero, suc, ◌+◌, ◌-◌, ◌%◌, ◌<◌, ◌≤◌, ◌==◌, arith, Bool}
use Rattle.plan_num.proofs.Common.{true, false, ◌&&◌, ◌||◌, not, cond, All, IfSome, List, [], ◌∷◌}
use Rattle.plan_num.proofs.Common.{length, filter, get_or, find, Some, refl, ap, subst, sym, ◌∙◌}
use Rattle.plan_num.proofs.Common.{inl, inr, flat_map, enumerate_from, count_by, AllByRecursion}
use Rattle.plan_num.proofs.Common.{eqb-true, eqb-false, false≢true, not-false, cases_Bool}
use Rattle.plan_num.proofs.Common.{get_or-map, get_or_default, All-from_recursion}
use Rattle.plan_num.proofs.Common.{recursion_from_All, get_or-enumerate_from, get_or-range_with_len}
use Rattle.plan_num.proofs.Common.{length-enumerate_from, sum_by-cons}
use Rattle.tables.proofs.Common.{front_none, back_none}
use Rattle.event_tables.specs.declared.event_kind.EventKind.{EventKind}
use Rattle.event_tables.specs.declared.periodic_activity.PeriodicActivity.{PeriodicActivity}
use Rattle.event_tables.specs.declared.periodic_event.PeriodicEvent.{PeriodicEvent}
use Rattle.event_tables.proofs.Common.{event_kind_place, is_arrival, runs_of, IsOneOf, KeepRunRules}
use Rattle.event_tables.proofs.Common.{breaks, broken_in, drives_at_once, is_placed, is_stray}
use Rattle.event_tables.proofs.Common.{leads, same_kind, unjoined_in}
use Rattle.event_tables.specs.declared.event_kind.EventKind.TheVariants as kinds
use Rattle.event_tables.specs.declared.periodic_kind.PeriodicKind.TheVariants as kind
use Rattle.roll_out.specs.Plans.{IsBetween, IsTimed}
use Rattle.roll_out.specs.TimedRuns.{TimedParts, no_event}
use Rattle.roll_out.proofs.SoundPlans.{between_all}
use Rattle.roll_out.proofs.WholeRuns.{runs_have, runs_some, runs_whole}
use Rattle.plan_num.proofs.Lists.{unmapped}

pub no_true : {P : Type 0} → false ≡ true → P
no_true e = absurd (false≢true e)

pub no_false : {P : Type 0} → true ≡ false → P
no_false e = no_true (sym e)

nothing_passes : {X : Type 0} (p : X → Bool) (xs : List X) → filter p xs ≡ []
    → AllByRecursion (λ x. p x ≡ false) xs
nothing_passes p [] none = tt
nothing_passes p (x ∷ xs) none = elim (cases_Bool (p x)) [
  | inl is ↦ absurd (let e = rw is at none in cc)
  | inr fails ↦ (fails, nothing_passes p xs (rw fails at none))
]

no_parts : {A X : Type 0} (f : A → List X) (xs : List A) → flat_map f xs ≡ []
    → AllByRecursion (λ x. f x ≡ []) xs
no_parts f [] none = tt
no_parts f (x ∷ xs) none =
    grind (arith, front_none, back_none, no_parts f xs (back_none (f x) (flat_map f xs) none))

-- ---- activities

-- an activity between events that is not stray
pub record IsFit (network : TimedParts) (way : PeriodicActivity) : Type 0 where
  pub between : IsBetween network way
  pub placed : is_placed network.events way ≡ true
  pub takes_time : drives_at_once way ≡ false

not_stray : (a b : Bool) → (not a || b) ≡ false → (a ≡ true) × (b ≡ false)
not_stray true b none = (refl, none)
not_stray false b none = no_false none

pub all_fit : (network : TimedParts) → IsTimed network
    → filter (is_stray network.events) network.activities ≡ []
    → All (IsFit network) network.activities
all_fit network is none = λ i d h.
    let parts = not_stray (is_placed network.events (get_or network.activities i d))
    (drives_at_once (get_or network.activities i d))
    (All-from_recursion (λ way. is_stray network.events way ≡ false) network.activities
    (nothing_passes (is_stray network.events) network.activities none) i d h) in
    record { between = between_all network is i d h; placed = parts.0; takes_time = parts.1 }

-- what is found passes the test
pub found_passes : {X : Type 0} (p : X → Bool) (xs : List X) → IfSome (find p xs) (λ x. p x ≡ true)
found_passes p [] = tt
found_passes p (x ∷ xs) = grind (arith, cases_Bool, found_passes p xs)

-- something that passes is found
counted_found : {X : Type 0} (p : X → Bool) (xs : List X) → 1 ≤ count_by p xs → (x : X)
    × (find p xs ≡ Some x)
counted_found p [] some = absurd (omega (arith, some))
counted_found p (x ∷ xs) some = elim (cases_Bool (p x)) [
  | inl is ↦ (x, rw is refl)
  | inr none ↦
      let all = subst (λ n. 1 ≤ n) (sum_by-cons (λ x. cond (p x) 1 0) x xs) some in
      rw none (counted_found p xs (omega (arith, rw none at all)))
]

-- ---- drives

some_minutes : (drives : Bool) (lower : ℕ) → drives ≡ true → (drives && lower == 0) ≡ false → 1
    ≤ lower
some_minutes false lower is none = no_true is
some_minutes true lower is none = let other = eqb-false lower 0 none in omega (arith, other)

-- a way on from a departure takes time
pub drive_takes : (way : PeriodicActivity) → same_kind way.kind kind.Drive ≡ true
    → drives_at_once way ≡ false
    → 1 ≤ way.lower
drive_takes way is none = some_minutes (same_kind way.kind kind.Drive) way.lower is none

-- ---- runs

-- an event of a timetable
abbrev pub IsIn : TimedParts → PeriodicEvent → Type 0
IsIn network event = IsOneOf (length network.events) event.id
    × (get_or network.events (event.id - 1) no_event ≡ event)

-- a run that goes on by drives and waits, from a departure to an arrival
pub record IsGoodRun (network : TimedParts) (run : List PeriodicEvent) : Type 0 where
  pub more : 2 ≤ length run
  pub departs : is_arrival (get_or run 0 no_event).kind ≡ false
  pub arrives : is_arrival (get_or run (length run - 1) no_event).kind ≡ true
  pub joined : unjoined_in network.activities run ≡ []
  pub within : AllByRecursion (IsIn network) run

first_breaks : (event : PeriodicEvent) (run : List PeriodicEvent) → broken_in (event ∷ run) ≡ []
    → breaks (length (event ∷ run)) (0, event) ≡ false
first_breaks event run none = grind arith

first_turn : (kind : EventKind) (odd : Bool) → (not (event_kind_place kind == 0 % 2) || odd) ≡ false
    → (is_arrival kind ≡ false) × (odd ≡ false)
first_turn kinds.Departure odd none = (refl, none)
first_turn kinds.Arrival odd none = no_false none

last_breaks : (run : List PeriodicEvent) → 1 ≤ length run → broken_in run ≡ []
    → breaks (length run) (0 + (length run - 1), get_or run (length run - 1) no_event) ≡ false
last_breaks run some none =
    let all = nothing_passes (breaks (length run)) (enumerate_from 0 run)
    (unmapped (λ (at : ℕ × PeriodicEvent). at.1) _ none) in
    let size = length-enumerate_from 0 run in
    let last = All-from_recursion (λ at. breaks (length run) at ≡ false) (enumerate_from 0 run) all
    (length run - 1) (0, no_event) (omega (arith, some, size)) in
    subst (λ at. breaks (length run) at ≡ false)
    (get_or-enumerate_from 0 run (length run - 1) (0, no_event) (omega (arith, some))) last

last_turn : (kind : EventKind) (size place : ℕ) → place + 1 ≡ size
    → (not (event_kind_place kind == place % 2) || (place + 1 == size && size % 2 == 1)) ≡ false
    → is_arrival kind ≡ true
last_turn kinds.Arrival size place last none = refl
last_turn kinds.Departure size place last none = grind arith

good_run : (network : TimedParts) (run : List PeriodicEvent) → 1 ≤ length run → broken_in run ≡ []
    → unjoined_in network.activities run ≡ [] → AllByRecursion (IsIn network) run
    → IsGoodRun network run
good_run network [] some whole joined within = absurd (omega (arith, some))
good_run network (event ∷ []) some whole joined within =
    let turn = first_turn event.kind true (first_breaks event [] whole) in no_false turn.1
good_run network (event ∷ next ∷ run) some whole joined within =
    let turn = first_turn event.kind _ (first_breaks event (next ∷ run) whole) in
    let all = event ∷ next ∷ run in
    record {
      more = omega arith;
      departs = turn.0;
      arrives = last_turn (get_or all (length all - 1) no_event).kind (length all)
          (0 + (length all - 1)) (omega arith) (last_breaks all some whole);
      joined = joined;
      within = within;
    }

module _ (network : TimedParts) (is : IsTimed network)
    (keep : KeepRunRules network.events network.activities) where
  in_at : (i : ℕ) (d : PeriodicEvent) → i < length network.events
      → IsIn network (get_or network.events i d)
  in_at i d h =
      let at : (get_or network.events i d).id ≡ 1 + i =
      sym (get_or-map (λ (event : PeriodicEvent). event.id) network.events i d 0 h)
      ∙ ap (λ ids. get_or ids i 0) is.events_are.numbered
      ∙ get_or-range_with_len 1 (length network.events) i 0 h in
      let e : (get_or network.events i d).id - 1 ≡ i = omega (arith, at) in grind (
        arith,
        get_or,
        get_or_default,
      )

  all_in : AllByRecursion (λ (run : List PeriodicEvent). AllByRecursion (IsIn network) run)
      (runs_of network.events)
  all_in = grind (arith, runs_have, runs_whole, recursion_from_All, in_at)

  good_runs : (runs : List (List PeriodicEvent))
      → AllByRecursion (λ (run : List PeriodicEvent). 1 ≤ length run) runs
      → AllByRecursion (λ run. broken_in run ≡ []) runs
      → AllByRecursion (λ run. unjoined_in network.activities run ≡ []) runs
      → AllByRecursion (λ (run : List PeriodicEvent). AllByRecursion (IsIn network) run) runs
      → AllByRecursion (IsGoodRun network) runs
  good_runs [] some whole joined within = tt
  good_runs (run ∷ runs) some whole joined within =
      grind (arith, good_run, good_runs runs some.1 whole.1 joined.1 within.1)

  pub runs_good : AllByRecursion (IsGoodRun network) (runs_of network.events)
  runs_good = good_runs (runs_of network.events) (runs_some network.events)
      (no_parts broken_in (runs_of network.events) keep.whole)
      (no_parts (unjoined_in network.activities) (runs_of network.events) keep.joined) all_in

-- the first two events of a run are joined
pub first_joined : (network : TimedParts) (event next : PeriodicEvent) (run : List PeriodicEvent)
    → unjoined_in network.activities (event ∷ next ∷ run) ≡ []
    → (way : PeriodicActivity) × (find (leads (event, next)) network.activities ≡ Some way)
first_joined network event next run none =
    grind (arith, nothing_passes, unmapped, counted_found, eqb-true, not-false)
