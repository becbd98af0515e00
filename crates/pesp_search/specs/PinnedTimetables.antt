-- The stage of a timetable that a planner gives.
use Rattle.std.specs.Prelude.{ℕ, ◌∷◌, [], ◌++◌, if◌then◌else◌, List, length, codes, is_some, Result}
use Rattle.tables.specs.declared.file_id.FileId.TheVariants as file
use Rattle.giv_files.specs.declared.made.Made.{Made}
use Rattle.tables.specs.declared.refusal.Refusal.{Refusal}
use Rattle.tables.specs.declared.refusal.Refusal.TheVariants as refusal
use Rattle.tables.specs.declared.row_why.RowWhy.TheVariants as why
use Rattle.giv_files.specs.declared.stage.Stage.TheVariants as stage
use Rattle.tables.specs.Inputs.{Input, input_faults, or_else}
use Rattle.giv_files.specs.ReportLines.{count_text, report_line}
use Rattle.giv_files.specs.Settings.{BundleParts}
use Rattle.giv_files.specs.StageCalls.{input_text, unless_fault}
use Rattle.event_tables.specs.PeriodicFiles.{periodic_event_ids, periodic_time_input}
use Rattle.event_tables.specs.declared.periodic_time.PeriodicTime.{PeriodicTime}
use Rattle.pesp_model.specs.PespTexts.{events_of}
use Rattle.pesp.specs.Timetables.{first_broken}
use Rattle.pesp_search.specs.Judged.{times_in}
use Rattle.pesp_search.specs.TimetableStage.{period_in, problem_in, timetable_faults, times_text}

-- the file of the times
abbrev pub pinned_input : BundleParts → Input PeriodicTime
pinned_input bundle =
    periodic_time_input file.PinnedTimes (period_in bundle)
    (periodic_event_ids (events_of (input_text bundle 0)))

-- times, where some activity is not in its bounds
abbrev pub tension_faults : BundleParts → List ℕ → List Refusal
tension_faults bundle times =
    if is_some (first_broken (problem_in bundle) times)
    then refusal.BadRow file.PinnedTimes 0 why.NotFeasible ∷ [] else []

-- every fault of a bundle, in the order of its inputs
abbrev pub pinned_timetable_faults : BundleParts → List Refusal
pinned_timetable_faults bundle =
    timetable_faults bundle
    ++ or_else (input_faults (pinned_input bundle) (input_text bundle 2))
    (tension_faults bundle (times_in (input_text bundle 2)))

-- what is made of times
abbrev pub times_kept : List ℕ → Made
times_kept times = record {
  files = record { file = file.TimesP; text = times_text times } ∷ [];
  report = report_line stage.Timetable
      (count_text (length times) (codes "events") ∷ codes "pinned" ∷ []);
}

-- the stage
unfoldable pub pinned_timetable_stage : BundleParts → Result Made Refusal
pinned_timetable_stage bundle =
    unless_fault (pinned_timetable_faults bundle) (times_kept (times_in (input_text bundle 2)))
