-- Schedules from any hand, told by the trips that each vehicle drives.
use Rattle.std.specs.Prelude.{ℕ, ◌≡◌, ◌<◌, ◌+◌, ◌&&◌, nat_eq, not, is_some, if◌then◌else◌, Bool}
use Rattle.std.specs.Prelude.{true, List, [], length, map, filter, slice_get, All, Option, Some}
use Rattle.std.specs.Prelude.{None, Result, Ok, Err, ⊤}
use Rattle.std.specs.List.{concat}
use Rattle.event_tables.specs.declared.schedule_row.ScheduleRow.{ScheduleRow}
use Rattle.event_tables.specs.declared.trip.Trip.{Trip}
use Rattle.event_tables.specs.Cells.{schedule_row}
use Rattle.event_tables.specs.Schedules.{is_empty_row}
use Rattle.tables.specs.Columns.{schedule_columns}
use Rattle.tables.specs.Reading.{faults, table_of}
use Rattle.tables.specs.RowsOfTables.{records_by}
use Rattle.walks.specs.Walks.{edge_time, least_sum}
use Rattle.vehicle_model.specs.declared.plan_fault.PlanFault.{PlanFault}
use Rattle.vehicle_model.specs.declared.plan_fault.PlanFault.TheVariants as fault
use Rattle.link_plans.specs.Plans.{next}
use Rattle.vehicle_model.specs.Schedules.{at_time, rows_from}
use Rattle.vehicle_model.specs.Trips.{TripsParts, start_stop, end_stop, link_minutes}

-- an empty ride between two stops that no walk joins
abbrev pub is_nowhere : TripsParts → ScheduleRow → Bool
is_nowhere trips row = is_empty_row row && not (is_some (least_sum trips.network edge_time
    (start_stop trips.network row.run) (end_stop trips.network row.run)))

-- a run that ends in the minute in which it starts
abbrev pub at_once : Trip → Trip
at_once run = record { start = run.start; end = at_time run.end run.start.time; line = run.line }

-- a row as it is told: the minute in which an empty ride ends is free where no walk joins its stops,
-- and such a ride is told as if it took no time
abbrev pub as_told : TripsParts → ScheduleRow → ScheduleRow
as_told trips row = if is_nowhere trips row then record {
  circulation = row.circulation;
  vehicle = row.vehicle;
  number = row.number;
  kind = row.kind;
  run = at_once row.run;
} else row

-- some numbers are those below a count, each once, in any order
pub record AreEachOnce (count : ℕ) (numbers : List ℕ) : Type 0 where
  pub below : All (λ i. i < count) numbers
  pub once : (i : ℕ) → i < count → length (filter (nat_eq i) numbers) ≡ 1

-- rows are the schedule of vehicles, each given by its trips in the order driven: every vehicle has a
-- trip, and every trip has one vehicle; the rows of the first vehicle come first, then those of the
-- second and so on, and those of one are its trips with an empty ride between two of them
pub record IsScheduleOf (trips : TripsParts) (vehicles : List (List ℕ)) (rows : List ScheduleRow) : Type 0 where
  pub busy : All (λ driven. 0 < length driven) vehicles
  pub once : AreEachOnce (length trips.trips) (concat vehicles)
  pub written : map (as_told trips) rows ≡ rows_from trips 1 vehicles

-- a text is a table, and its rows are the schedule of vehicles
pub record IsTextOf (trips : TripsParts) (vehicles : List (List ℕ)) (text : List ℕ) : Type 0 where
  pub table : faults schedule_columns text ≡ []
  pub schedule : IsScheduleOf trips vehicles (records_by schedule_row (table_of schedule_columns text))

-- a vehicle drives a trip, and another one right after it
pub record Drives (driven : List ℕ) (i j : ℕ) : Type 0 where
  pub at : ℕ
  pub first : slice_get driven at ≡ Some i
  pub second : slice_get driven (at + 1) ≡ Some j

-- every trip may follow the one that its vehicle drives before it
abbrev pub MayDrive : TripsParts → List (List ℕ) → Type 0
MayDrive trips vehicles = All (λ driven. (i j : ℕ) → Drives driven i j
    → is_some (link_minutes trips i j) ≡ true) vehicles

-- some trip comes right after one that it may not follow
pub record IsLateIn (trips : TripsParts) (vehicles : List (List ℕ)) (j : ℕ) : Type 0 where
  pub vehicle : ℕ
  pub driven : List ℕ
  pub is : slice_get vehicles vehicle ≡ Some driven
  pub i : ℕ
  pub drives : Drives driven i j
  pub late : link_minutes trips i j ≡ None

-- the plan of vehicles: after each trip comes the one that its vehicle drives next, and none after
-- its last one
pub record IsPlanOf (count : ℕ) (vehicles : List (List ℕ)) (plan : List (Option ℕ)) : Type 0 where
  pub each : length plan ≡ count
  pub next : All (λ driven. (at i : ℕ) → slice_get driven at ≡ Some i
      → next plan i ≡ slice_get driven (at + 1)) vehicles

-- what reading answers, told by vehicles: their plan, where the text is that of vehicles of which each
-- trip may follow the one before it; that the text is no table; that its rows are the schedule of no
-- vehicles; or a trip that may not follow the one before it. Want of memory is free
abbrev pub ReadsWhatIsDriven : TripsParts → List ℕ → Result (List (Option ℕ)) PlanFault → Type 0
ReadsWhatIsDriven trips text (Ok plan) = (vehicles : List (List ℕ)) × IsTextOf trips vehicles text
    × MayDrive trips vehicles × IsPlanOf (length trips.trips) vehicles plan
ReadsWhatIsDriven trips text (Err (fault.Row first)) =
    slice_get (faults schedule_columns text) 0 ≡ Some first
ReadsWhatIsDriven trips text (Err (fault.Trips row)) =
    (vehicles : List (List ℕ)) → IsTextOf trips vehicles text → ⊥
ReadsWhatIsDriven trips text (Err (fault.Follow j)) =
    ((vehicles : List (List ℕ)) × IsTextOf trips vehicles text)
    × ((vehicles : List (List ℕ)) → IsTextOf trips vehicles text → IsLateIn trips vehicles j)
ReadsWhatIsDriven trips text (Err fault.NoMemory) = ⊤
