-- The rules of a timetable from any hand, in the order in which they are looked for.
use Rattle.std.specs.Prelude.{ℕ, ◌&&◌, ◌==◌, nat_lt, nat_eq, not, is_some, if◌then◌else◌, Bool}
use Rattle.std.specs.Prelude.{List, [], ◌∷◌, ◌++◌, length, map, slice_get, Option}
use Rattle.std.specs.List.{list_all, enumerate_from}
use Rattle.tables.specs.Columns.{times_p_columns}
use Rattle.tables.specs.Reading.{faults, table_of}
use Rattle.event_tables.specs.declared.periodic_time.PeriodicTime.{PeriodicTime}
use Rattle.event_tables.specs.Cells.{periodic_time}
use Rattle.tables.specs.RowsOfTables.{ReadsAs, records_by}
use Rattle.pesp.specs.Timetables.{Problem, first_broken, IsTimetable}
use Rattle.pesp_search.specs.declared.fault.TimetableFault.{TimetableFault}
use Rattle.pesp_search.specs.declared.fault.TimetableFault.TheVariants as fault
use Rattle.pesp_search.specs.TimetableStage.{time_rows}

-- the rows of times of a text, and their times
abbrev pub rows_in : List ℕ → List PeriodicTime
rows_in text = records_by periodic_time (table_of times_p_columns text)

abbrev pub times_in : List ℕ → List ℕ
times_in text = map (λ row. row.time) (rows_in text)

-- a row is that of the event of a number, with a time below a period
abbrev pub is_time_of : ℕ → ℕ × PeriodicTime → Bool
is_time_of period at = nat_eq at.1.event at.0 && nat_lt at.1.time period

-- rows are one for each event in order, with a time below the period
abbrev pub are_in_order : Problem → List PeriodicTime → Bool
are_in_order problem rows =
    (length rows == problem.events) && list_all (is_time_of problem.period) (enumerate_from 1 rows)

-- a rule, where it is broken
abbrev pub broken_where : Bool → TimetableFault → List TimetableFault
broken_where is_broken rule = if is_broken then rule ∷ [] else []

-- a text is a table of times
abbrev pub is_table : List ℕ → Bool
is_table text = length (faults times_p_columns text) == 0

-- the rules that rows break: they are not the events, an activity breaks its bounds
abbrev pub broken_rows : Problem → List PeriodicTime → List TimetableFault
broken_rows problem rows =
    broken_where (not (are_in_order problem rows)) fault.Events
    ++ broken_where (is_some (first_broken problem (map (λ row. row.time) rows))) fault.Tension

-- the rules that a text breaks as a timetable of a problem, in order: it is no table, or else those
-- that its rows break
abbrev pub broken_rules : Problem → List ℕ → List TimetableFault
broken_rules problem text =
    broken_where (not (is_table text)) fault.Row ++ broken_rows problem (rows_in text)

-- the first of them, or none
unfoldable pub first_broken_rule : Problem → List ℕ → Option TimetableFault
first_broken_rule problem text = slice_get (broken_rules problem text) 0

-- a timetable passes: its text is a table of one time for each event in order, and these are a
-- timetable
pub record Passes (problem : Problem) (text : List ℕ) : Type 0 where
  pub times : List ℕ
  pub reads : ReadsAs times_p_columns periodic_time (time_rows times) text
  pub timetable : IsTimetable problem times
