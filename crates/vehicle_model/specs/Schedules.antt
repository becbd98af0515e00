-- The schedule of a plan, as rows: the trips of each vehicle in turn, and an empty ride between two
-- of them.
use Rattle.std.specs.Prelude.{ℕ, zero, suc, ◌+◌, List, [], ◌∷◌, ◌++◌, length, map, get_or, Option}
use Rattle.std.specs.Prelude.{Some, None, unwrap_or}
use Rattle.event_tables.specs.declared.schedule_kind.ScheduleKind.TheVariants as kind
use Rattle.event_tables.specs.declared.schedule_row.ScheduleRow.{ScheduleRow}
use Rattle.event_tables.specs.declared.trip.Trip.{Trip}
use Rattle.event_tables.specs.declared.trip.TripEnd.{TripEnd}
use Rattle.event_tables.specs.Cells.{schedule_cells}
use Rattle.event_tables.specs.Headers.{schedule_header}
use Rattle.tables.specs.RowsOfTables.{file_text}
use Rattle.tables.specs.Columns.{schedule_columns}
use Rattle.vehicle_model.specs.Trips.{TripsParts, dead_minutes}
use Rattle.vehicle_model.specs.Plans.{starts}
use Rattle.link_plans.specs.Plans.{next}

-- no trip
abbrev pub no_end : TripEnd
no_end = record { event = 0; periodic = 0; stop = 0; time = 0 }

abbrev pub no_trip : Trip
no_trip = record { start = no_end; end = no_end; line = 0 }

-- the trip of a number
abbrev pub trip_of : TripsParts → ℕ → Trip
trip_of trips i = get_or trips.trips i no_trip

-- the dead minutes between two trips, by their numbers
abbrev pub dead_between : TripsParts → ℕ → ℕ → Option ℕ
dead_between trips i j = dead_minutes trips.network (trip_of trips i) (trip_of trips j)

-- the trips of a vehicle from one on, of so many at most
unfoldable pub tour : ℕ → List (Option ℕ) → Option ℕ → List ℕ
tour zero plan at = []
tour (suc more) plan None = []
tour (suc more) plan (Some i) = i ∷ tour more plan (next plan i)

-- the trips of each vehicle: vehicles come by their first trips
abbrev pub tours : List (Option ℕ) → List (List ℕ)
tours plan = map (λ first. tour (length plan) plan (Some first)) (starts plan)

-- an end of a trip at another time
abbrev pub at_time : TripEnd → ℕ → TripEnd
at_time end time =
    record { event = end.event; periodic = end.periodic; stop = end.stop; time = time }

-- an empty ride: it leaves where and when a trip ends, and some minutes later it is where another one
-- starts; its line is 0
abbrev pub empty_ride : Trip → Trip → ℕ → Trip
empty_ride before after minutes = record {
  start = before.end;
  end = at_time after.start (before.end.time + minutes);
  line = 0;
}

-- the row of a trip, by its vehicle and by its number among the rows of the vehicle
abbrev pub trip_row : TripsParts → ℕ → ℕ → ℕ → ScheduleRow
trip_row trips vehicle number i = record {
  circulation = vehicle;
  vehicle = vehicle;
  number = number;
  kind = kind.Trip;
  run = trip_of trips i;
}

-- the row of the empty ride between two trips
abbrev pub empty_row : TripsParts → ℕ → ℕ → ℕ → ℕ → ScheduleRow
empty_row trips vehicle number i j = record {
  circulation = vehicle;
  vehicle = vehicle;
  number = number;
  kind = kind.Empty;
  run = empty_ride (trip_of trips i) (trip_of trips j) (unwrap_or (dead_between trips i j) 0);
}

-- the rows of a vehicle behind that of a trip, which has a number: an empty ride and a trip in turn
unfoldable pub rows_behind : TripsParts → ℕ → ℕ → ℕ → List ℕ → List ScheduleRow
rows_behind trips vehicle number i [] = []
rows_behind trips vehicle number i (j ∷ more) =
    empty_row trips vehicle (number + 1) i j ∷ trip_row trips vehicle (number + 2) j
    ∷ rows_behind trips vehicle (number + 2) j more

-- the rows of a vehicle, by its trips
abbrev pub vehicle_rows : TripsParts → ℕ → List ℕ → List ScheduleRow
vehicle_rows trips vehicle [] = []
vehicle_rows trips vehicle (i ∷ more) =
    trip_row trips vehicle 1 i ∷ rows_behind trips vehicle 1 i more

-- the rows of vehicles, which count from a number on
unfoldable pub rows_from : TripsParts → ℕ → List (List ℕ) → List ScheduleRow
rows_from trips vehicle [] = []
rows_from trips vehicle (trip_numbers ∷ more) =
    vehicle_rows trips vehicle trip_numbers ++ rows_from trips (vehicle + 1) more

-- the rows of a plan: vehicles count from 1
abbrev pub plan_rows : TripsParts → List (Option ℕ) → List ScheduleRow
plan_rows trips plan = rows_from trips 1 (tours plan)

-- the text of a plan
unfoldable pub plan_text : TripsParts → List (Option ℕ) → List ℕ
plan_text trips plan =
    file_text schedule_header schedule_columns schedule_cells (plan_rows trips plan)
