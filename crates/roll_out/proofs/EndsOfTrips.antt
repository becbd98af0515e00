-- Trips start with departures of their day and end with arrivals.
use Rattle.plan_num.proofs.Common.{◌≡◌, ℕ, zero, suc, ◌+◌, ◌-◌, ◌<◌, arith, true, false, List, []}
use Rattle.plan_num.proofs.Common.{◌∷◌, length, get_or, refl, subst, AllByRecursion, enumerate_from}
use Rattle.plan_num.proofs.Common.{All-from_recursion, get_or-enumerate_from, length-enumerate_from}
use Rattle.event_tables.specs.declared.event_kind.EventKind.{EventKind}
use Rattle.event_tables.specs.declared.expanded_event.ExpandedEvent.{ExpandedEvent}
use Rattle.event_tables.specs.declared.periodic_event.PeriodicEvent.{PeriodicEvent}
use Rattle.event_tables.proofs.Common.{is_arrival}
use Rattle.event_tables.specs.declared.event_kind.EventKind.TheVariants as kinds
use Rattle.roll_out.specs.DayTrips.{TripParts, day_event, no_timed, trip_end_at, trip_events, trip_row}
use Rattle.roll_out.specs.RightRollout.{IsEndAt, IsTripOver}
use Rattle.roll_out.specs.RolloutStage.{trip_rows}
use Rattle.roll_out.specs.TimedRuns.{TimedParts, minutes_on, no_event, timed_from, way_on}
use Rattle.roll_out.proofs.GoodRuns.{no_false, no_true}
use Rattle.roll_out.proofs.ListedEvents.{IsListed, mapped_all}
use Rattle.roll_out.proofs.RolledTrips.{IsRolled}
use Rattle.roll_out.proofs.SoundPlans.{timed_size}

-- the periodic event at a place of a timed run
event_at : (network : TimedParts) (minutes : ℕ) (run : List PeriodicEvent) (i : ℕ) → i < length run
    → (get_or (timed_from network minutes run) i no_timed).event ≡ get_or run i no_event
unfolding timed_from
event_at network minutes [] i h = absurd (omega (arith, h))
event_at network minutes (event ∷ run) zero h = refl
event_at network minutes (event ∷ run) (suc i) h =
    event_at network (minutes + minutes_on network (way_on network event run)) run i
    (omega (arith, h))

-- there are two kinds
departure : (kind : EventKind) → is_arrival kind ≡ false → kind ≡ kinds.Departure
departure kinds.Departure is = refl
departure kinds.Arrival is = no_false is

arrival : (kind : EventKind) → is_arrival kind ≡ true → kind ≡ kinds.Arrival
arrival kinds.Arrival is = refl
arrival kinds.Departure is = no_true is

module _ (network : TimedParts) (events : List ExpandedEvent) (trip : TripParts)
    (listed : AllByRecursion (IsListed events) (trip_events trip)) where
  -- the event at a place of a trip
  end_at_place : (kind : EventKind) (i : ℕ) → i < length trip.run
      → (get_or trip.run i no_timed).event.kind ≡ kind → IsEndAt events kind (trip_end_at trip i)
  end_at_place kind i here is =
      let each = All-from_recursion (λ at. IsListed events (day_event trip.start at))
      (enumerate_from trip.first trip.run)
      (mapped_all (IsListed events) (day_event trip.start)
      (enumerate_from trip.first trip.run) listed) in
      let size = length-enumerate_from trip.first trip.run in
      let own = subst (λ at. IsListed events (day_event trip.start at))
      (get_or-enumerate_from trip.first trip.run i (0, no_timed) here)
      (each i (0, no_timed) (omega (arith, here, size))) in grind (arith, get_or)

  -- a trip of a good run
  trip_over : IsRolled network trip → IsTripOver events (trip_row trip)
  trip_over rolled = grind (arith, timed_size, get_or, event_at, end_at_place, departure, arrival)

-- all of them do
pub trips_over : (network : TimedParts) (events : List ExpandedEvent) (trips : List TripParts)
    → AllByRecursion (IsRolled network) trips
    → AllByRecursion (λ trip. AllByRecursion (IsListed events) (trip_events trip)) trips
    → AllByRecursion (IsTripOver events) (trip_rows trips)
trips_over network events [] rolled listed = tt
trips_over network events (trip ∷ trips) rolled listed = (
  trip_over network events trip listed.0 rolled.0,
  trips_over network events trips rolled.1 listed.1,
)
