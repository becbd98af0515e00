-- The file of a vehicle schedule, and its rules over the events of the day.
use Rattle.std.specs.Prelude.{ℕ, ◌≡◌, ◌+◌, ◌-◌, ◌≤◌, Bool, ◌&&◌, ◌||◌, true, false, not, nat_lt, List, [], ◌∷◌, length}
use Rattle.std.specs.Prelude.{filter, All}
use Rattle.tables.specs.declared.counted.Counted.TheVariants as counted
use Rattle.tables.specs.declared.file_id.FileId.TheVariants as file
use Rattle.tables.specs.declared.row_why.RowWhy.TheVariants as why
use Rattle.tables.specs.Columns.{schedule_columns}
use Rattle.tables.specs.Inputs.{Input, Limit, RowRule}
use Rattle.tables.specs.Writing.{InColumns}
use Rattle.event_tables.specs.declared.expanded_event.ExpandedEvent.{ExpandedEvent}
use Rattle.event_tables.specs.declared.schedule_row.ScheduleRow.{ScheduleRow}
use Rattle.event_tables.specs.Cells.{schedule_row, schedule_cells}
use Rattle.event_tables.specs.ExpandedFiles.{expanded_event_ids}
use Rattle.event_tables.specs.ForwardOrder.{event_with, both_pass, goes_forward}
use Rattle.event_tables.specs.Kinds.{is_empty}
use Rattle.event_tables.specs.Places.{known_ends, IsOneOf}

-- the limit of the number of rows of one kind
abbrev pub kind_limit : (ScheduleRow → Bool) → Limit ScheduleRow
kind_limit is_kind =
    record { what = counted.Trips; most = 2000; count = λ rows. length (filter is_kind rows) }

-- a row that is a trip, and one that is an empty ride
abbrev pub is_trip_row : ScheduleRow → Bool
is_trip_row row = not (is_empty row.kind)

abbrev pub is_empty_row : ScheduleRow → Bool
is_empty_row row = is_empty row.kind

-- an empty ride ends before it starts
abbrev pub ends_early : ScheduleRow → Bool
ends_early row = nat_lt row.run.end.time row.run.start.time

-- so many minutes are no more than those from one planned time to another
abbrev pub has_room : ℕ → ExpandedEvent → ExpandedEvent → Bool
has_room minutes start end = not (nat_lt end.time (start.time + minutes))

-- an empty ride takes more minutes than there are between its two events as planned
abbrev pub lacks_room : List ExpandedEvent → ScheduleRow → Bool
lacks_room events row = not (both_pass (has_room (row.run.end.time - row.run.start.time))
    (event_with events row.run.start.event) (event_with events row.run.end.event))

-- its start event does not stand before its end event
abbrev pub goes_back : List ExpandedEvent → ScheduleRow → Bool
goes_back events row = not (goes_forward events row.run.start.event row.run.end.event)

-- the rule that an empty ride is backward in none of the three ways
abbrev pub empty_forward : List ExpandedEvent → RowRule ScheduleRow
empty_forward events = record {
  is_broken = λ _ row. is_empty_row row
      && (ends_early row || lacks_room events row || goes_back events row);
  why = why.Backward;
}

-- the rules of a row over the events, in their order
abbrev pub schedule_rules : List ExpandedEvent → List (RowRule ScheduleRow)
schedule_rules events =
    known_ends (expanded_event_ids events) (λ row. row.run.start.event) (λ row. row.run.end.event)
    ∷ empty_forward events ∷ []

-- the file of a vehicle schedule over the events; trips are counted first, and then empty rides
abbrev pub schedule_input : List ExpandedEvent → Input ScheduleRow
schedule_input events = record {
  file = file.Schedule;
  columns = schedule_columns;
  read = schedule_row;
  limits = kind_limit is_trip_row ∷ kind_limit is_empty_row ∷ [];
  row_rules = schedule_rules events;
  table_rules = [];
}

-- a row between two events; an empty ride is backward in none of the three ways
pub record IsScheduleRow (events : List ExpandedEvent) (row : ScheduleRow) : Type 0 where
  pub start : IsOneOf (length events) row.run.start.event
  pub end : IsOneOf (length events) row.run.end.event
  pub in_time : is_empty_row row ≡ true → row.run.start.time ≤ row.run.end.time
  pub room : is_empty_row row ≡ true → lacks_room events row ≡ false
  pub forward : is_empty_row row ≡ true → goes_forward events row.run.start.event row.run.end.event
      ≡ true

-- what holds of the rows of a schedule
pub record AreScheduleRows (events : List ExpandedEvent) (rows : List ScheduleRow) : Type 0 where
  pub few_trips : length (filter is_trip_row rows) ≤ 2000
  pub few_empty : length (filter is_empty_row rows) ≤ 2000
  pub each : All (IsScheduleRow events) rows
  pub fit : All (λ row. InColumns schedule_columns (schedule_cells row)) rows
