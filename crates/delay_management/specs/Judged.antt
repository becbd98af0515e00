-- The rules of a disposition from any hand, in the order in which they are looked for.
use Rattle.std.specs.Prelude.{ℕ, ℤ, ◌&&◌, ◌||◌, ◌==◌, nat_lt, nat_eq, not, if◌then◌else◌, Bool, List, [], ◌∷◌, ◌++◌}
use Rattle.std.specs.Prelude.{length, map, filter, get_or, slice_get, Option}
use Rattle.std.specs.List.{list_all, list_any, enumerate_from, range_with_len}
use Rattle.tables.specs.declared.column.ColumnKind.{ColumnKind}
use Rattle.tables.specs.Columns.{disposed_columns, reasons_columns}
use Rattle.tables.specs.Reading.{faults, table_of}
use Rattle.giv_files.specs.Settings.{BundleParts}
use Rattle.event_tables.specs.declared.disposed_time.DisposedTime.{DisposedTime}
use Rattle.event_tables.specs.Cells.{disposed_time, number_in}
use Rattle.tables.specs.RowsOfTables.{ReadsAs, records_by}
use Rattle.delay_management.specs.declared.fault.ReasonFault.{ReasonFault}
use Rattle.delay_management.specs.declared.fault.ReasonFault.TheVariants as fault
use Rattle.propagation.specs.declared.reason.Reason.{Reason}
use Rattle.propagation.specs.declared.reason.Reason.TheVariants as reason
use Rattle.delay_management.specs.DispositionStage.{ReasonRow, kept_in, problem_in, reason_rows, time_rows}
use Rattle.propagation.specs.declared.step.Activity.{Activity}
use Rattle.propagation.specs.declared.step.Step.{Step}
use Rattle.propagation.specs.LeastTimes.{asked, time_at}
use Rattle.propagation.specs.Problems.{DelayProblem, earliest_at, steps_with}
use Rattle.propagation.specs.Reasons.{AreRight, is_right, reason_for}
use Rattle.propagation.specs.Waiting.{IsDisposition}
use Rattle.delay_management.specs.WaitSettings.{wait_of}

-- the reason of a word, by its place; the id counts for an activity alone
abbrev pub reason_at : ℕ → ℕ → Reason
reason_at place id = get_or (reason.Source ∷ reason.Activity id ∷ []) place reason.Turn

abbrev pub reason_row : List ℤ → ReasonRow
reason_row cells =
    record { event = number_in cells 0; reason = reason_at (number_in cells 1) (number_in cells 2) }

-- the rows of the two texts
abbrev pub times_read : List ℕ → List DisposedTime
times_read text = records_by disposed_time (table_of disposed_columns text)

abbrev pub reasons_read : List ℕ → List ReasonRow
reasons_read text = records_by reason_row (table_of reasons_columns text)

-- a text is a table of these columns
abbrev pub is_table : List ColumnKind → List ℕ → Bool
is_table columns text = length (faults columns text) == 0

-- ids are those of so many events, in their order
abbrev pub are_all : ℕ → List ℕ → Bool
are_all count ids =
    (length ids == count) && list_all (λ at. nat_eq at.1 at.0) (enumerate_from 1 ids)

-- a rule, where it is broken
abbrev pub broken_where : Bool → ReasonFault → List ReasonFault
broken_where is_broken rule = if is_broken then rule ∷ [] else []

-- the events of a problem that pass a test
abbrev pub events_where : DelayProblem → (ℕ → Bool) → List ℕ
events_where problem test = filter test (range_with_len 0 (length problem.events))

-- a step into an event asks for a later time
abbrev pub is_ahead : List ℕ → ℕ → Step → Bool
is_ahead times event step = (step.to == event) && nat_lt (time_at times event) (asked times step)

-- an event is before its earliest time, or before what a step into it asks
abbrev pub is_early : DelayProblem → List Step → List ℕ → ℕ → Bool
is_early problem steps times event =
    nat_lt (time_at times event) (earliest_at problem event)
    || list_any (is_ahead times event) steps

-- the reason of an event is wrong
abbrev pub is_wrong : DelayProblem → List Activity → List ℕ → List Reason → ℕ → Bool
is_wrong problem kept times reasons event =
    not (is_right problem kept times event (reason_for reasons event))

-- the rules that rows of reasons break for some times: they are not those of all events, a reason
-- is wrong
abbrev pub broken_reasons : DelayProblem → List Activity → List ℕ → List ReasonRow
    → List ReasonFault
broken_reasons problem kept times rows =
    broken_where (not (are_all (length problem.events) (map (λ row. row.event) rows)))
    fault.ReasonsRow
    ++ map (λ event. fault.Reason event)
    (events_where problem (is_wrong problem kept times (map (λ row. row.reason) rows)))

-- the rules that a text of reasons breaks for some times
abbrev pub reason_faults : DelayProblem → List Activity → List ℕ → List ℕ → List ReasonFault
reason_faults problem kept times text =
    broken_where (not (is_table reasons_columns text)) fault.ReasonsRow
    ++ broken_reasons problem kept times (reasons_read text)

-- the rules that times break: an event is early, or else those of their reasons
abbrev pub broken_times : DelayProblem → List Activity → List ℕ → List ℕ → List ReasonFault
broken_times problem kept times reasons_text =
    map (λ event. fault.Early event)
    (events_where problem (is_early problem (steps_with problem kept) times))
    ++ reason_faults problem kept times reasons_text

-- the rules that rows of times break, with a text of reasons: they are not those of all events, and
-- those that their times break
abbrev pub broken_rows : DelayProblem → List Activity → List DisposedTime → List ℕ
    → List ReasonFault
broken_rows problem kept rows reasons_text =
    broken_where (not (are_all (length problem.events) (map (λ row. row.event) rows))) fault.Events
    ++ broken_times problem kept (map (λ row. row.time) rows) reasons_text

-- every rule that a text of times and a text of reasons break, in order
abbrev pub broken_rules : DelayProblem → List Activity → List ℕ → List ℕ → List ReasonFault
broken_rules problem kept times_text reasons_text =
    broken_where (not (is_table disposed_columns times_text)) fault.TimesRow
    ++ broken_rows problem kept (times_read times_text) reasons_text

-- the first of them, or none
unfoldable pub first_broken_rule : DelayProblem → List Activity → List ℕ → List ℕ
    → Option ReasonFault
first_broken_rule problem kept times_text reasons_text =
    slice_get (broken_rules problem kept times_text reasons_text) 0

-- two texts pass over a bundle: they are tables of one row for each event in order, the times are
-- its disposition, so no feasible times are earlier at any event, and each reason is right
pub record Passes (bundle : BundleParts) (times_text reasons_text : List ℕ) : Type 0 where
  pub times : List ℕ
  pub reasons : List Reason
  pub times_read : ReadsAs disposed_columns disposed_time (time_rows times) times_text
  pub reasons_read : ReadsAs reasons_columns reason_row (reason_rows reasons) reasons_text
  pub disposition : IsDisposition (problem_in bundle) (wait_of bundle.settings) times
  pub right : AreRight (problem_in bundle) (kept_in bundle) times reasons
