-- A vehicle schedule as an input of later stages, over the events of the day of which the trips were
-- made.
use Rattle.std.specs.Prelude.{ℕ, ◌≡◌, List, [], All, Some}
use Rattle.tables.specs.Inputs.{input_faults}
use Rattle.event_tables.specs.declared.event_kind.EventKind.{EventKind}
use Rattle.event_tables.specs.declared.event_kind.EventKind.TheVariants as kind
use Rattle.event_tables.specs.declared.expanded_event.ExpandedEvent.{ExpandedEvent}
use Rattle.event_tables.specs.declared.trip.Trip.{Trip}
use Rattle.event_tables.specs.declared.trip.TripEnd.{TripEnd}
use Rattle.event_tables.specs.ForwardOrder.{event_with}
use Rattle.event_tables.specs.Schedules.{schedule_input}

-- an end of a trip is an event of a kind, which is planned for its time
pub record IsPlanned (events : List ExpandedEvent) (kind : EventKind) (end : TripEnd) : Type 0 where
  pub event : ExpandedEvent
  pub there : event_with events end.event ≡ Some event
  pub is : event.kind ≡ kind
  pub time : event.time ≡ end.time

-- a trip of a day: it starts with a departure and ends with an arrival
pub record IsRolledOut (events : List ExpandedEvent) (trip : Trip) : Type 0 where
  pub start : IsPlanned events kind.Departure trip.start
  pub end : IsPlanned events kind.Arrival trip.end

-- the text of a schedule is accepted over each day of which the trips are
abbrev pub IsAccepted : List Trip → List ℕ → Type 0
IsAccepted trips schedule = (events : List ExpandedEvent) → All (IsRolledOut events) trips
    → input_faults (schedule_input events) schedule ≡ []
