-- The events of a day are numbered in their order, so each is found by its id.
use Rattle.plan_num.proofs.Common.{◌≡◌, ℕ, ◌+◌, ◌-◌, ◌<◌, arith, List, [], ◌∷◌, ◌++◌, length, map}
use Rattle.plan_num.proofs.Common.{get_or, Some, refl, ap, sym, ◌∙◌, flat_map, range_with_len}
use Rattle.plan_num.proofs.Common.{enumerate_from, AllByRecursion, length-append, length-map}
use Rattle.plan_num.proofs.Common.{map-append, get_or-map, recursion_from_All}
use Rattle.plan_num.proofs.Common.{get_or-range_with_len, length-enumerate_from}
use Rattle.event_tables.specs.declared.expanded_event.ExpandedEvent.{ExpandedEvent}
use Rattle.event_tables.proofs.Common.{event_with, AreNumbered, IsOneOf, find_numbered}
use Rattle.roll_out.specs.declared.day.Day.{Day}
use Rattle.roll_out.specs.declared.timed_event.TimedEvent.{TimedEvent}
use Rattle.roll_out.specs.DayTrips.{TripParts, day_event, day_events, numbered_trips, trip_events, trips_of}
use Rattle.roll_out.specs.TimedRuns.{TimedParts}
use Rattle.plan_num.proofs.Parts.{range_parts}

abbrev id_of : ExpandedEvent → ℕ
id_of event = event.id

trip_ids : (start n : ℕ) (run : List TimedEvent)
    → map id_of (map (day_event start) (enumerate_from n run)) ≡ range_with_len n (length run)
trip_ids start n [] = refl
trip_ids start n (at ∷ run) = ap (λ ids. n ∷ ids) (trip_ids start (n + 1) run)

pub trip_size : (trip : TripParts) → length (trip_events trip) ≡ length trip.run
trip_size trip = grind (arith, length-map, length-enumerate_from)

day_ids : (n : ℕ) (departures : List (ℕ × List TimedEvent))
    → map id_of (day_events (numbered_trips n departures))
    ≡ range_with_len n (length (day_events (numbered_trips n departures)))
unfolding numbered_trips
day_ids n [] = refl
day_ids n (at ∷ departures) =
    let trip : TripParts = record { first = n; start = at.0; run = at.1 } in
    let rest = day_events (numbered_trips (n + length at.1) departures) in
    let size = length-append (trip_events trip) rest ∙ ap (λ k. k + length rest) (trip_size trip) in
    grind (arith, map-append, trip_ids, range_parts, day_ids (n + length at.1) departures)

-- their ids are their places
pub events_placed : (network : TimedParts) (day : Day)
    → AreNumbered (λ event. event.id) (day_events (trips_of network day))
unfolding trips_of
events_placed network day = day_ids 1 _

-- an event is found among some by its id
pub record IsListed (events : List ExpandedEvent) (event : ExpandedEvent) : Type 0 where
  pub found : event_with events event.id ≡ Some event
  pub id : IsOneOf (length events) event.id

listed_at : (events : List ExpandedEvent) → AreNumbered (λ event. event.id) events
    → (i : ℕ) (d : ExpandedEvent)
    → i < length events → IsListed events (get_or events i d)
listed_at events are i d h =
    let at : (get_or events i d).id ≡ 1 + i =
    sym (get_or-map id_of events i d 0 h) ∙ ap (λ ids. get_or ids i 0) are
    ∙ get_or-range_with_len 1 (length events) i 0 h in
    let one : IsOneOf (length events) (get_or events i d).id =
    (omega (arith, at), omega (arith, at, h)) in
    let e : (get_or events i d).id - 1 ≡ i = omega (arith, at) in
    record {
      found = find_numbered id_of (get_or events i d).id events d are one
          ∙ ap (λ k. Some (get_or events k d)) e;
      id = one;
    }

pub all_listed : (events : List ExpandedEvent) → AreNumbered (λ event. event.id) events
    → AllByRecursion (IsListed events) events
all_listed events are = recursion_from_All (IsListed events) events (listed_at events are)

-- ---- what holds of all parts holds of each

pub parts_of_all : {A X : Type 0} (P : X → Type 0) (f : A → List X) (xs : List A)
    → AllByRecursion P (flat_map f xs)
    → AllByRecursion (λ x. AllByRecursion P (f x)) xs
parts_of_all P f [] all = tt
parts_of_all {A} {X} P f (x ∷ xs) all =
    let parts = split (f x) (flat_map f xs) all in (parts.0, parts_of_all P f xs parts.1)
  where
    split : (xs ys : List X) → AllByRecursion P (xs ++ ys) → AllByRecursion P xs
        × AllByRecursion P ys
    split [] ys all = (tt, all)
    split (x ∷ xs) ys all = let rest = split xs ys all.1 in ((all.0, rest.0), rest.1)

pub mapped_all : {A X : Type 0} (P : X → Type 0) (f : A → X) (xs : List A)
    → AllByRecursion P (map f xs)
    → AllByRecursion (λ x. P (f x)) xs
mapped_all P f [] all = tt
mapped_all P f (x ∷ xs) all = (all.0, mapped_all P f xs all.1)
