-- The changes of a day go forward between its events.
use Rattle.plan_num.proofs.Common.{◌≡◌, ℕ, ◌+◌, ◌-◌, ◌≤◌, arith, Bool, true, false, All, List, []}
use Rattle.plan_num.proofs.Common.{◌∷◌, map, filter, get_or, ◌∙◌, flat_map, enumerate_from}
use Rattle.plan_num.proofs.Common.{AllByRecursion, eqb-true, cases_Bool, recursion_from_All}
use Rattle.std.proofs.lemmas.Bool.{and_parts as both_true}
use Rattle.event_tables.specs.declared.expanded_event.ExpandedEvent.{ExpandedEvent}
use Rattle.event_tables.specs.declared.periodic_activity.PeriodicActivity.{PeriodicActivity}
use Rattle.event_tables.specs.declared.periodic_event.PeriodicEvent.{PeriodicEvent}
use Rattle.event_tables.specs.declared.periodic_kind.PeriodicKind.{PeriodicKind}
use Rattle.event_tables.proofs.Common.{IsExpandedActivity, is_arrival, joins, AreNumbered}
use Rattle.event_tables.proofs.Common.{same_kind}
use Rattle.event_tables.specs.declared.periodic_kind.PeriodicKind.TheVariants as kind
use Rattle.roll_out.specs.DayActivities.{change_copies, changes_from, change_copy, day_changes, is_change, is_copy, is_head}
use Rattle.roll_out.specs.DayTrips.{TripParts, day_event, day_events, trip_events}
use Rattle.roll_out.specs.TimedRuns.{TimedParts, minutes_of, no_event, timed_from, minutes_on, way_on}
use Rattle.roll_out.proofs.GoesForward.{changes_stand, forward_between}
use Rattle.roll_out.proofs.GoodRuns.{IsFit, IsIn, no_true}
use Rattle.roll_out.proofs.ListedEvents.{IsListed}
use Rattle.roll_out.proofs.PlacedEvents.{known_ends_is}
use Rattle.roll_out.proofs.RolledTrips.{IsRolled}
use Rattle.plan_num.proofs.Lists.{append_all}

-- an event of the day is of the kind and at the stop of its periodic event
pub record IsOf (network : TimedParts) (event : ExpandedEvent) : Type 0 where
  pub periodic : PeriodicEvent
  pub is : get_or network.events (event.periodic - 1) no_event ≡ periodic
  pub kind : event.kind ≡ periodic.kind
  pub stop : event.stop ≡ periodic.stop

module _ (network : TimedParts) where
  run_of : (start n minutes : ℕ) (run : List PeriodicEvent) → AllByRecursion (IsIn network) run
      → AllByRecursion (IsOf network) (map (day_event start)
      (enumerate_from n (timed_from network minutes run)))
  unfolding timed_from
  run_of start n minutes [] within = tt
  run_of start n minutes (event ∷ run) within =
      grind (
        arith,
        run_of start (n + 1) (minutes + minutes_on network (way_on network event run)) run within.1,
      )

  trip_of : (trip : TripParts) → IsRolled network trip
      → AllByRecursion (IsOf network) (trip_events trip)
  trip_of trip rolled = grind (arith, run_of)

  pub events_of_trips : (trips : List TripParts) → AllByRecursion (IsRolled network) trips
      → AllByRecursion (IsOf network) (day_events trips)
  events_of_trips [] rolled = tt
  events_of_trips (trip ∷ trips) rolled =
      grind (arith, append_all, trip_of, events_of_trips trips rolled.1)

pub both_all : {X : Type 0} (P Q : X → Type 0) (xs : List X) → AllByRecursion P xs
    → AllByRecursion Q xs
    → AllByRecursion (λ x. P x × Q x) xs
both_all P Q [] first second = tt
both_all P Q (x ∷ xs) first second = ((first.0, second.0), both_all P Q xs first.1 second.1)

-- those that pass a test, with the test
pub passing_all : {X : Type 0} (P : X → Type 0) (p : X → Bool) (xs : List X) → AllByRecursion P xs
    → AllByRecursion (λ x. P x × (p x ≡ true)) (filter p xs)
passing_all P p [] all = tt
passing_all P p (x ∷ xs) all = grind (arith, cases_Bool, passing_all P p xs all.1)

pub mapped_from : {A X : Type 0} (P : X → Type 0) (Q : A → Type 0) (f : A → X)
    → ((x : A) → Q x → P (f x)) → (xs : List A)
    → AllByRecursion Q xs → AllByRecursion P (map f xs)
mapped_from P Q f step [] all = tt
mapped_from P Q f step (x ∷ xs) all = (step x all.0, mapped_from P Q f step xs all.1)

pub parts_from : {A X : Type 0} (P : X → Type 0) (Q : A → Type 0) (f : A → List X)
    → ((x : A) → Q x → AllByRecursion P (f x)) → (xs : List A) → AllByRecursion Q xs
    → AllByRecursion P (flat_map f xs)
parts_from P Q f step [] all = tt
parts_from P Q f step (x ∷ xs) all =
    append_all P (f x) (flat_map f xs) (step x all.0) (parts_from P Q f step xs all.1)

joins_as : (of : PeriodicKind) (event next : PeriodicEvent) → same_kind of kind.Change ≡ true
    → joins of event next ≡ true → joins kind.Change event next ≡ true
joins_as kind.Change event next is joined = joined
joins_as kind.Drive event next is joined = no_true is
joins_as kind.Wait event next is joined = no_true is
joins_as kind.Sync event next is joined = no_true is
joins_as kind.Headway event next is joined = no_true is

-- a change goes from an arrival to a departure
change_ends : (event next : PeriodicEvent) → joins kind.Change event next ≡ true
    → (is_arrival event.kind ≡ true) × (is_arrival next.kind ≡ false)
change_ends event next joined = grind arith

module _ (network : TimedParts) (some : 1 ≤ network.period) (short : network.period ≤ 720)
    (numbered : AreNumbered (λ event. event.id) network.events)
    (fit : All (IsFit network) network.activities)
    (events : List ExpandedEvent) (listed : AllByRecursion (IsListed events) events)
    (of : AllByRecursion (IsOf network) events) where
  abbrev Known : ExpandedEvent → Type 0
  Known event = IsListed events event × IsOf network event

  known : AllByRecursion Known events
  known = both_all (IsListed events) (IsOf network) events listed of

  one_change : (way : PeriodicActivity) → IsFit network way → same_kind way.kind kind.Change
      ≡ true
      → (tail : ExpandedEvent) → Known tail → tail.periodic ≡ way.from → (head : ExpandedEvent)
      → Known head
      → head.periodic ≡ way.to → head.time ≡ tail.time + minutes_of network way
      → IsExpandedActivity events (change_copy way tail.id head.id)
  one_change way is changes tail from is_from head to is_to later =
      let sound = is.between.sound in
      let joined = joins_as way.kind (get_or network.events (way.from - 1) no_event)
      (get_or network.events (way.to - 1) no_event) changes
      (known_ends_is network.events numbered way no_event (sound.from.0, sound.from.1)
      (sound.to.0, sound.to.1) ∙ is.placed) in grind (
        arith,
        change_ends,
        get_or,
        forward_between,
        changes_stand,
      )

  change_all : (way : PeriodicActivity) → IsFit network way → same_kind way.kind kind.Change
      ≡ true
      → AllByRecursion (IsExpandedActivity events) (change_copies network events way)
  change_all way is changes =
      parts_from (IsExpandedActivity events) (λ tail. Known tail × (is_copy way.from tail ≡ true))
      (changes_from network events way) (λ tail from.
      mapped_from (IsExpandedActivity events)
      (λ head. Known head × (is_head network way tail head ≡ true))
      (λ (head : ExpandedEvent). change_copy way tail.id head.id) (λ head to.
      let parts = both_true (is_copy way.to head) _ to.1 in grind (arith, one_change, eqb-true))
      (filter (is_head network way tail) events)
      (passing_all Known (is_head network way tail) events known))
      (filter (is_copy way.from) events) (passing_all Known (is_copy way.from) events known)

  -- the changes are accepted
  pub changes_good : AllByRecursion (IsExpandedActivity events) (day_changes network events)
  changes_good =
      parts_from (IsExpandedActivity events) (λ way. IsFit network way × (is_change way ≡ true))
      (change_copies network events) (λ way is. change_all way is.0 is.1)
      (filter is_change network.activities)
      (passing_all (IsFit network) is_change network.activities
      (recursion_from_All (IsFit network) network.activities fit))
