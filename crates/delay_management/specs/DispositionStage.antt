-- The stage of dispositions: the least times of all events where delays have come and some changes
-- wait, and a reason for each.
use Rattle.std.specs.Prelude.{ℕ, ℤ, pos, List, [], ◌∷◌, ◌++◌, map, codes, decimal, Result}
use Rattle.std.specs.Fmt.{signed_decimal}
use Rattle.std.specs.List.{enumerate_from}
use Rattle.tables.specs.declared.file_id.FileId.TheVariants as file
use Rattle.giv_files.specs.declared.key.Key.TheVariants as key
use Rattle.giv_files.specs.declared.made.Made.{Made}
use Rattle.tables.specs.declared.refusal.Refusal.{Refusal}
use Rattle.tables.specs.Columns.{disposed_columns, reasons_columns}
use Rattle.tables.specs.Inputs.{input_faults, records_of}
use Rattle.giv_files.specs.Settings.{BundleParts, amount}
use Rattle.giv_files.specs.StageCalls.{input_text, unless_fault}
use Rattle.event_tables.specs.declared.delay_row.DelayRow.{DelayRow}
use Rattle.event_tables.specs.declared.disposed_time.DisposedTime.{DisposedTime}
use Rattle.event_tables.specs.declared.expanded_activity.ExpandedActivity.{ExpandedActivity}
use Rattle.event_tables.specs.declared.expanded_event.ExpandedEvent.{ExpandedEvent}
use Rattle.event_tables.specs.declared.schedule_row.ScheduleRow.{ScheduleRow}
use Rattle.event_tables.specs.Cells.{disposed_time_cells}
use Rattle.event_tables.specs.Delays.{event_delay_input, activity_delay_input}
use Rattle.event_tables.specs.ExpandedFiles.{expanded_event_input, expanded_activity_input, expanded_event_ids}
use Rattle.event_tables.specs.ExpandedFiles.{expanded_activity_ids}
use Rattle.event_tables.specs.Headers.{disposed_time_header}
use Rattle.tables.specs.RowsOfTables.{file_text}
use Rattle.event_tables.specs.Schedules.{schedule_input}
use Rattle.propagation.specs.declared.reason.Reason.{Reason}
use Rattle.propagation.specs.declared.reason.Reason.TheVariants as reason
use Rattle.propagation.specs.declared.step.Activity.{Activity}
use Rattle.propagation.specs.Lateness.{delay_at, missed_at}
use Rattle.propagation.specs.LeastTimes.{least_times}
use Rattle.propagation.specs.Problems.{DelayProblem}
use Rattle.delay_management.specs.InputProblems.{problem_over}
use Rattle.propagation.specs.Reasons.{canonical_reasons, named_activity}
use Rattle.propagation.specs.Waiting.{kept_changes}
use Rattle.delay_management.specs.WaitSettings.{wait_of}

-- what the input texts hold: events, activities, a vehicle schedule, the delays of events and of
-- activities
unfoldable pub events_in : BundleParts → List ExpandedEvent
events_in bundle = records_of expanded_event_input (input_text bundle 0)

unfoldable pub activities_in : BundleParts → List ExpandedActivity
activities_in bundle = records_of (expanded_activity_input (events_in bundle)) (input_text bundle 1)

unfoldable pub schedule_in : BundleParts → List ScheduleRow
schedule_in bundle = records_of (schedule_input (events_in bundle)) (input_text bundle 2)

unfoldable pub event_delays_in : BundleParts → List DelayRow
event_delays_in bundle =
    records_of (event_delay_input (expanded_event_ids (events_in bundle))) (input_text bundle 3)

unfoldable pub activity_delays_in : BundleParts → List DelayRow
activity_delays_in bundle =
    records_of (activity_delay_input (expanded_activity_ids (activities_in bundle)))
    (input_text bundle 4)

-- the faults of each input
abbrev pub event_faults : BundleParts → List Refusal
event_faults bundle = input_faults expanded_event_input (input_text bundle 0)

abbrev pub activity_faults : BundleParts → List Refusal
activity_faults bundle =
    input_faults (expanded_activity_input (events_in bundle)) (input_text bundle 1)

abbrev pub schedule_faults : BundleParts → List Refusal
schedule_faults bundle = input_faults (schedule_input (events_in bundle)) (input_text bundle 2)

abbrev pub event_delay_faults : BundleParts → List Refusal
event_delay_faults bundle =
    input_faults (event_delay_input (expanded_event_ids (events_in bundle))) (input_text bundle 3)

abbrev pub activity_delay_faults : BundleParts → List Refusal
activity_delay_faults bundle =
    input_faults (activity_delay_input (expanded_activity_ids (activities_in bundle)))
    (input_text bundle 4)

-- the faults of the files that earlier stages make, and of those of delays, in the order of the
-- inputs
abbrev pub made_faults : BundleParts → List Refusal
made_faults bundle = event_faults bundle ++ (activity_faults bundle ++ schedule_faults bundle)

abbrev pub delay_faults : BundleParts → List Refusal
delay_faults bundle = event_delay_faults bundle ++ activity_delay_faults bundle

-- every fault of the texts of a bundle, in the order of its inputs
unfoldable pub disposition_faults : BundleParts → List Refusal
disposition_faults bundle = made_faults bundle ++ delay_faults bundle

-- the turnover time of a bundle
abbrev pub turnover_in : BundleParts → ℕ
turnover_in bundle = amount bundle.settings key.VsTurnOverTime

-- what a bundle is about
unfoldable pub problem_in : BundleParts → DelayProblem
problem_in bundle =
    problem_over (turnover_in bundle) (events_in bundle) (activities_in bundle) (schedule_in bundle)
    (event_delays_in bundle) (activity_delays_in bundle)

-- the changes that are kept over a bundle
abbrev pub kept_in : BundleParts → List Activity
kept_in bundle = kept_changes (problem_in bundle) (wait_of bundle.settings)

-- the row of the reason of an event
pub record ReasonRow : Type 0 where
  pub event : ℕ
  pub reason : Reason

-- the rows of times and of reasons: the events are numbered from 1
abbrev pub time_rows : List ℕ → List DisposedTime
time_rows times = map (λ at. record { event = at.0; time = at.1 }) (enumerate_from 1 times)

abbrev pub reason_rows : List Reason → List ReasonRow
reason_rows reasons = map (λ at. record { event = at.0; reason = at.1 }) (enumerate_from 1 reasons)

-- the cells of a reason: the place of its word, and the id of its activity, or 0 for none
abbrev pub reason_place : Reason → ℕ
reason_place reason.Source = 0
reason_place (reason.Activity id) = 1
reason_place reason.Turn = 2

abbrev pub reason_cells : ReasonRow → List ℤ
reason_cells row =
    pos row.event ∷ pos (reason_place row.reason) ∷ pos (named_activity row.reason) ∷ []

-- the texts of times and of reasons
abbrev pub times_text : List ℕ → List ℕ
times_text times =
    file_text disposed_time_header disposed_columns disposed_time_cells (time_rows times)

abbrev pub reasons_header : List ℕ
reasons_header = codes "# event-id; reason; activity-id"

abbrev pub reasons_text : List Reason → List ℕ
reasons_text reasons = file_text reasons_header reasons_columns reason_cells (reason_rows reasons)

-- the line of the report
abbrev pub disposition_line : DelayProblem → List ℕ → List ℕ
disposition_line problem times =
    codes "disposition: delay " ++ signed_decimal (delay_at problem.events times) ++ codes ", "
    ++ decimal (missed_at problem.changes times) ++ codes " missed, optimal"

-- what is made of times and their reasons
abbrev pub disposition_made : DelayProblem → List ℕ → List Reason → Made
disposition_made problem times reasons = record {
  files = record { file = file.Disposed; text = times_text times }
      ∷ record { file = file.Reasons; text = reasons_text reasons } ∷ [];
  report = disposition_line problem times;
}

-- what is made of a problem where some changes are kept: the least times, and the reasons that are
-- written of them
unfoldable pub disposed_of : DelayProblem → List Activity → Made
disposed_of problem kept =
    let times = least_times problem kept in
    disposition_made problem times (canonical_reasons problem kept times)

-- the stage: from settings and input texts to what is made, or the first fault
unfoldable pub disposition_stage : BundleParts → Result Made Refusal
disposition_stage bundle =
    unless_fault (disposition_faults bundle) (disposed_of (problem_in bundle) (kept_in bundle))
