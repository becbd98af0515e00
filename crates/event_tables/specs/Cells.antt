-- Numbers in the cells of a row, and the records that rows stand for.
use Rattle.std.specs.Prelude.{ℕ, ℤ, pos, ◌+◌, ◌≤ℤ◌, List, [], ◌∷◌, ◌++◌, get_or, unsigned_abs, All}
use Rattle.event_tables.specs.declared.delay_row.DelayRow.{DelayRow}
use Rattle.event_tables.specs.declared.disposed_time.DisposedTime.{DisposedTime}
use Rattle.event_tables.specs.declared.expanded_activity.ExpandedActivity.{ExpandedActivity}
use Rattle.event_tables.specs.declared.expanded_event.ExpandedEvent.{ExpandedEvent}
use Rattle.event_tables.specs.declared.periodic_activity.PeriodicActivity.{PeriodicActivity}
use Rattle.event_tables.specs.declared.periodic_event.PeriodicEvent.{PeriodicEvent}
use Rattle.event_tables.specs.declared.periodic_time.PeriodicTime.{PeriodicTime}
use Rattle.event_tables.specs.declared.schedule_row.ScheduleRow.{ScheduleRow}
use Rattle.event_tables.specs.declared.trip.Trip.{Trip}
use Rattle.event_tables.specs.declared.trip.TripEnd.{TripEnd}
use Rattle.event_tables.specs.Kinds.{event_kind_at, direction_at, activity_kind_at, periodic_kind_at, schedule_kind_at}
use Rattle.event_tables.specs.Kinds.{event_kind_place, direction_place, activity_kind_place, periodic_kind_place}
use Rattle.event_tables.specs.Kinds.{schedule_kind_place}

-- the number in a column; in these files none is below 0
abbrev pub number_in : List ℤ → ℕ → ℕ
number_in cells column = unsigned_abs (get_or cells column (pos 0))

-- a number that is not below 0, and below 2 to the power of 32
abbrev pub IsSmall : ℤ → Type 0
IsSmall cell = (pos 0 ≤ℤ cell) × (cell ≤ℤ pos 4294967295)

-- cells whose numbers are so
abbrev pub AreSmall : List ℤ → Type 0
AreSmall cells = All IsSmall cells

-- ---- what a row stands for

abbrev pub periodic_event : List ℤ → PeriodicEvent
periodic_event cells = record {
  id = number_in cells 0;
  kind = event_kind_at (number_in cells 1);
  stop = number_in cells 2;
  line = number_in cells 3;
  direction = direction_at (number_in cells 4);
  repetition = number_in cells 5;
}

abbrev pub periodic_activity : List ℤ → PeriodicActivity
periodic_activity cells = record {
  id = number_in cells 0;
  kind = periodic_kind_at (number_in cells 1);
  from = number_in cells 2;
  to = number_in cells 3;
  lower = number_in cells 4;
  upper = number_in cells 5;
}

abbrev pub periodic_time : List ℤ → PeriodicTime
periodic_time cells = record { event = number_in cells 0; time = number_in cells 1 }

abbrev pub expanded_event : List ℤ → ExpandedEvent
expanded_event cells = record {
  id = number_in cells 0;
  periodic = number_in cells 1;
  kind = event_kind_at (number_in cells 2);
  time = number_in cells 3;
  stop = number_in cells 4;
}

abbrev pub expanded_activity : List ℤ → ExpandedActivity
expanded_activity cells = record {
  id = number_in cells 0;
  periodic = number_in cells 1;
  kind = activity_kind_at (number_in cells 2);
  from = number_in cells 3;
  to = number_in cells 4;
  lower = number_in cells 5;
  upper = number_in cells 6;
}

-- the start or the end of a trip, from four columns
abbrev pub trip_end : List ℤ → ℕ → TripEnd
trip_end cells column = record {
  event = number_in cells column;
  periodic = number_in cells (column + 1);
  stop = number_in cells (column + 2);
  time = number_in cells (column + 3);
}

abbrev pub trip : List ℤ → Trip
trip cells = record { start = trip_end cells 0; end = trip_end cells 4; line = number_in cells 8 }

abbrev pub schedule_row : List ℤ → ScheduleRow
schedule_row cells = record {
  circulation = number_in cells 0;
  vehicle = number_in cells 1;
  number = number_in cells 2;
  kind = schedule_kind_at (number_in cells 3);
  run = record { start = trip_end cells 4; end = trip_end cells 8; line = number_in cells 12 };
}

abbrev pub delay_row : List ℤ → DelayRow
delay_row cells = record { id = number_in cells 0; delay = number_in cells 1 }

abbrev pub disposed_time : List ℤ → DisposedTime
disposed_time cells = record { event = number_in cells 0; time = number_in cells 1 }

-- ---- the cells of a row for it

abbrev pub periodic_event_cells : PeriodicEvent → List ℤ
periodic_event_cells event = pos event.id ∷ pos (event_kind_place event.kind) ∷ pos event.stop
    ∷ pos event.line ∷ pos (direction_place event.direction) ∷ pos event.repetition ∷ []

abbrev pub periodic_activity_cells : PeriodicActivity → List ℤ
periodic_activity_cells activity = pos activity.id ∷ pos (periodic_kind_place activity.kind)
    ∷ pos activity.from ∷ pos activity.to ∷ pos activity.lower ∷ pos activity.upper ∷ []

abbrev pub periodic_time_cells : PeriodicTime → List ℤ
periodic_time_cells row = pos row.event ∷ pos row.time ∷ []

abbrev pub expanded_event_cells : ExpandedEvent → List ℤ
expanded_event_cells event = pos event.id ∷ pos event.periodic ∷ pos (event_kind_place event.kind)
    ∷ pos event.time ∷ pos event.stop ∷ []

abbrev pub expanded_activity_cells : ExpandedActivity → List ℤ
expanded_activity_cells activity = pos activity.id ∷ pos activity.periodic
    ∷ pos (activity_kind_place activity.kind) ∷ pos activity.from ∷ pos activity.to
    ∷ pos activity.lower
    ∷ pos activity.upper ∷ []

abbrev pub trip_end_cells : TripEnd → List ℤ
trip_end_cells at = pos at.event ∷ pos at.periodic ∷ pos at.stop ∷ pos at.time ∷ []

abbrev pub trip_cells : Trip → List ℤ
trip_cells trip = trip_end_cells trip.start ++ trip_end_cells trip.end ++ pos trip.line ∷ []

abbrev pub schedule_cells : ScheduleRow → List ℤ
schedule_cells row = pos row.circulation ∷ pos row.vehicle ∷ pos row.number
    ∷ pos (schedule_kind_place row.kind) ∷ trip_cells row.run

abbrev pub delay_cells : DelayRow → List ℤ
delay_cells row = pos row.id ∷ pos row.delay ∷ []

abbrev pub disposed_time_cells : DisposedTime → List ℤ
disposed_time_cells row = pos row.event ∷ pos row.time ∷ []
