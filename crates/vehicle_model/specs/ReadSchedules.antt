-- The plan of a schedule from any hand, and why a text is none.
use Rattle.std.specs.Prelude.{ℕ, ◌≡◌, ◌+◌, ◌==◌, ◌&&◌, ◌||◌, nat_eq, not, is_some, if◌then◌else◌}
use Rattle.std.specs.Prelude.{Bool, true, false, List, [], ◌∷◌, ◌++◌, length, map, filter, fold}
use Rattle.std.specs.Prelude.{replicate, position, slice_get, slice_set, Option, Some, None}
use Rattle.std.specs.Prelude.{option_map, Result, Ok, Err, ⊤}
use Rattle.std.specs.List.{list_any, list_all, range_with_len}
use Rattle.std.specs.Option.{option_to_list}
use Rattle.event_tables.specs.declared.schedule_row.ScheduleRow.{ScheduleRow}
use Rattle.event_tables.specs.declared.trip.Trip.{Trip}
use Rattle.event_tables.specs.declared.trip.TripEnd.{TripEnd}
use Rattle.event_tables.specs.Cells.{schedule_row}
use Rattle.tables.specs.RowsOfTables.{records_by, numbered_by}
use Rattle.event_tables.specs.Schedules.{is_trip_row, is_empty_row}
use Rattle.tables.specs.Columns.{schedule_columns}
use Rattle.tables.specs.Inputs.{Numbered}
use Rattle.tables.specs.Reading.{faults, table_of}
use Rattle.vehicle_model.specs.declared.plan_fault.PlanFault.{PlanFault}
use Rattle.vehicle_model.specs.declared.plan_fault.PlanFault.TheVariants as fault
use Rattle.vehicle_model.specs.Trips.{TripsParts, link_minutes}
use Rattle.vehicle_model.specs.Schedules.{trip_of, dead_between}

-- two ends of trips, or two trips, are the same
abbrev pub same_end : TripEnd → TripEnd → Bool
same_end a b =
    (a.event == b.event) && (a.periodic == b.periodic) && (a.stop == b.stop) && (a.time == b.time)

abbrev pub same_run : Trip → Trip → Bool
same_run a b = same_end a.start b.start && same_end a.end b.end && (a.line == b.line)

-- the number of the trip that a row repeats
abbrev pub trip_in : TripsParts → ScheduleRow → Option ℕ
trip_in trips row =
    if is_empty_row row then None else position (same_run row.run) trips.trips

-- what is known behind some rows: the last of them, and the trips that they repeat, the last one first
pub record Reading : Type 0 where
  pub before : Option ScheduleRow
  pub seen : List ℕ

abbrev pub nothing_read : Reading
nothing_read = record { before = None; seen = [] }

abbrev pub one_more : TripsParts → Reading → ScheduleRow → Reading
one_more trips read row =
    record { before = Some row; seen = option_to_list (trip_in trips row) ++ read.seen }

-- the vehicle of the last row; 0 before all rows
abbrev pub last_vehicle : Option ScheduleRow → ℕ
last_vehicle None = 0
last_vehicle (Some before) = before.vehicle

-- a row begins the next vehicle
abbrev pub begins : Option ScheduleRow → ScheduleRow → Bool
begins before row = (row.vehicle == last_vehicle before + 1) && (row.number == 1)

-- a row is the next one of the vehicle of another
abbrev pub is_next_row : ScheduleRow → ScheduleRow → Bool
is_next_row before row = (row.vehicle == before.vehicle) && (row.number == before.number + 1)

-- it stands behind a trip of its vehicle, or behind an empty ride
abbrev pub follows_trip : Option ScheduleRow → ScheduleRow → Bool
follows_trip None row = false
follows_trip (Some before) row = is_trip_row before && is_next_row before row

abbrev pub follows_empty : Option ScheduleRow → ScheduleRow → Bool
follows_empty None row = false
follows_empty (Some before) row = is_empty_row before && is_next_row before row

-- a trip that is there, and has not come before
abbrev pub is_new : (ℕ → Bool) → Option ℕ → Bool
is_new has_come None = false
is_new has_come (Some i) = not (has_come i)

-- an empty ride leaves where and when a trip ends, and has line 0
abbrev pub leaves : Trip → Trip → Bool
leaves before ride = same_end ride.start before.end && (ride.line == 0)

-- it takes the dead minutes; where no walk joins the stops, any minutes
abbrev pub takes : Option ℕ → Trip → Bool
takes None ride = true
takes (Some minutes) ride = ride.end.time == ride.start.time + minutes

-- it goes to the event and the stop where another trip starts, in the dead minutes
abbrev pub goes_to : Option ℕ → Trip → Trip → Bool
goes_to minutes after ride = (ride.end.event == after.start.event)
    && (ride.end.periodic == after.start.periodic) && (ride.end.stop == after.start.stop)
    && takes minutes ride

-- an empty ride from a trip; where the row behind it repeats a trip, it goes to that one
abbrev pub is_ride : TripsParts → ℕ → Trip → Option ℕ → Bool
is_ride trips i ride None = leaves (trip_of trips i) ride
is_ride trips i ride (Some j) =
    leaves (trip_of trips i) ride && goes_to (dead_between trips i j) (trip_of trips j) ride

-- the row behind an empty ride is there, and is that of a trip of the same vehicle
abbrev pub leads_to : TripsParts → Option ℕ → ScheduleRow → Option ScheduleRow → Bool
leads_to trips (Some i) row (Some after) = (after.vehicle == row.vehicle) && is_trip_row after
    && is_ride trips i row.run (trip_in trips after)
leads_to trips _ row _ = false

-- the row of a trip begins a vehicle, or stands behind an empty ride, and its trip is new
abbrev pub trip_fits : TripsParts → Option ScheduleRow → (ℕ → Bool) → ScheduleRow → Bool
trip_fits trips before has_come row =
    (begins before row || follows_empty before row) && is_new has_come (trip_in trips row)

-- the row of an empty ride stands between two trips of its vehicle
abbrev pub empty_fits : TripsParts → Option ScheduleRow → Option ℕ → ScheduleRow → Option ScheduleRow
    → Bool
empty_fits trips before last row after = follows_trip before row && leads_to trips last row after

-- a row has the form that is due behind another row, where some trips have come and one of them last,
-- and before the row behind it
abbrev pub row_fits : TripsParts → Option ScheduleRow → Option ℕ → (ℕ → Bool) → ScheduleRow
    → Option ScheduleRow → Bool
row_fits trips before last has_come row after = (row.circulation == row.vehicle)
    && (if is_empty_row row then empty_fits trips before last row after
    else trip_fits trips before has_come row)

-- the last of the trips that rows repeat, and whether they repeat one
abbrev pub last_seen : Reading → Option ℕ
last_seen read = slice_get read.seen 0

abbrev pub has_seen : Reading → ℕ → Bool
has_seen read i = list_any (nat_eq i) read.seen

-- a row has the form that is due behind some rows, and before the row behind it
abbrev pub has_form : TripsParts → Reading → ScheduleRow → Option ScheduleRow → Bool
has_form trips read row after =
    row_fits trips read.before (last_seen read) (has_seen read) row after

-- the first of some rows
abbrev pub first_row : List (Numbered ScheduleRow) → Option ScheduleRow
first_row rows = option_map (λ at. at.row) (slice_get rows 0)

-- every trip has come
abbrev pub all_come : TripsParts → (ℕ → Bool) → Bool
all_come trips has_come = list_all has_come (range_with_len 0 (length trips.trips))

-- every fault of the form of rows, where some were read before: at each row that has not the form
-- that is due, by its number, and at row 0, where some trip has no row
unfoldable pub form_faults : TripsParts → Reading → List (Numbered ScheduleRow) → List PlanFault
form_faults trips read [] = if all_come trips (has_seen read) then [] else fault.Trips 0 ∷ []
form_faults trips read (at ∷ rows) =
    (if has_form trips read at.row (first_row rows) then [] else fault.Trips at.number ∷ [])
    ++ form_faults trips (one_more trips read at.row) rows

-- the link from a trip to another, where no vehicle begins between them
abbrev pub link_of : Bool → Option ℕ → Option ℕ → Option (ℕ × ℕ)
link_of false (Some i) (Some j) = Some (i, j)
link_of _ _ _ = None

-- the link to the trip of a row from the trip before it
abbrev pub link_to : TripsParts → Reading → ScheduleRow → Option (ℕ × ℕ)
link_to trips read row = link_of (begins read.before row) (last_seen read) (trip_in trips row)

-- the links of rows, in their order, where some were read before
unfoldable pub links_in : TripsParts → Reading → List ScheduleRow → List (ℕ × ℕ)
links_in trips read [] = []
links_in trips read (row ∷ rows) =
    option_to_list (link_to trips read row) ++ links_in trips (one_more trips read row) rows

-- the second trip of a link may not follow the first
abbrev pub is_late : TripsParts → ℕ × ℕ → Bool
is_late trips link = not (is_some (link_minutes trips link.0 link.1))

-- the links of which this holds
abbrev pub follow_faults : TripsParts → List (ℕ × ℕ) → List PlanFault
follow_faults trips links = map (λ link. fault.Follow link.1) (filter (is_late trips) links)

-- some faults, and others where there are none of them
abbrev pub or_others : {X : Type 0} → List X → List X → List X
or_others [] others = others
or_others (first ∷ more) others = first ∷ more

-- every fault of the rows of a table as a plan: of their form, else of their links
abbrev pub row_faults : TripsParts → List (Numbered ScheduleRow) → List PlanFault
row_faults trips rows = or_others (form_faults trips nothing_read rows)
    (follow_faults trips (links_in trips nothing_read (map (λ at. at.row) rows)))

-- every fault of a text as a plan: that it is no table, else those of its rows
unfoldable pub plan_faults : TripsParts → List ℕ → List PlanFault
plan_faults trips text = or_others (map (λ first. fault.Row first) (faults schedule_columns text))
    (row_faults trips (numbered_by schedule_row (table_of schedule_columns text)))

-- the plan of some links between so many trips
abbrev pub plan_by : ℕ → List (ℕ × ℕ) → List (Option ℕ)
plan_by count links =
    fold (λ plan link. slice_set plan link.0 (Some link.1)) (replicate count None) links

-- the plan of a text: each trip has the successor that a link gives it
unfoldable pub plan_of : TripsParts → List ℕ → List (Option ℕ)
plan_of trips text = plan_by (length trips.trips)
    (links_in trips nothing_read (records_by schedule_row (table_of schedule_columns text)))

-- what reading gives: the plan, or the first of all faults; want of memory is free
abbrev pub PlanGives : List PlanFault → List (Option ℕ) → Result (List (Option ℕ)) PlanFault
    → Type 0
PlanGives all plan (Ok read) = (all ≡ []) × (read ≡ plan)
PlanGives all plan (Err fault.NoMemory) = ⊤
PlanGives all plan (Err first) = slice_get all 0 ≡ Some first

-- a text has no fault as a plan, and is read as one
pub record IsReadBack (trips : TripsParts) (plan : List (Option ℕ)) (text : List ℕ) : Type 0 where
  pub faultless : plan_faults trips text ≡ []
  pub same : plan_of trips text ≡ plan
