-- What is right about the timetable that is made.
use Rattle.std.specs.Prelude.{◌≡◌, ◌≢◌, ◌⊎◌, ◌≤◌, ℕ, List, [], ◌∷◌, None, Result, Err}
use Rattle.tables.specs.declared.file_id.FileId.TheVariants as file
use Rattle.giv_files.specs.declared.made.Made.{Made}
use Rattle.giv_files.specs.declared.made.MadeFile.{MadeFile}
use Rattle.tables.specs.declared.refusal.Refusal.TheVariants as refusal
use Rattle.tables.specs.declared.refusal.StageFault.{StageFault}
use Rattle.tables.specs.declared.refusal.StageFault.TheVariants as fault
use Rattle.tables.specs.Columns.{times_p_columns}
use Rattle.tables.specs.Inputs.{input_faults}
use Rattle.giv_files.specs.Settings.{BundleParts}
use Rattle.giv_files.specs.StageCalls.{input_text}
use Rattle.event_tables.specs.Cells.{periodic_time}
use Rattle.event_tables.specs.PeriodicFiles.{periodic_event_ids, periodic_time_input}
use Rattle.tables.specs.RowsOfTables.{ReadsAs}
use Rattle.pesp_model.specs.PespTexts.{events_of}
use Rattle.pesp.specs.Timetables.{IsTimetable}
use Rattle.pesp_search.specs.Judged.{first_broken_rule}
use Rattle.pesp.specs.Listings.{listing, most_entries}
use Rattle.pesp_search.specs.TimetableStage.{budget_in, period_in, problem_in, time_rows}
use Rattle.pesp_search.specs.TimetableStage.{timetable_faults}

-- the ids of the events of a bundle
abbrev pub event_ids : BundleParts → List ℕ
event_ids bundle = periodic_event_ids (events_of (input_text bundle 0))

-- The files that are made are right: the inputs have no fault, and there is one file. Read again,
-- it has one time for each event in order, which are a timetable of the problem of the inputs; it
-- breaks no rule of a timetable from any hand, and has no fault by the rules of its kind.
pub record TimetableFilesAreRight (bundle : BundleParts) (files : List MadeFile) : Type 0 where
  pub inputs : timetable_faults bundle ≡ []
  pub times : List ℕ
  pub text : List ℕ
  pub one : files ≡ record { file = file.TimesP; text = text } ∷ []
  pub reads : ReadsAs times_p_columns periodic_time (time_rows times) text
  pub timetable : IsTimetable (problem_in bundle) times
  pub passes : first_broken_rule (problem_in bundle) text ≡ None
  pub accepted : input_faults
      (periodic_time_input file.TimesP (period_in bundle) (event_ids bundle)) text ≡ []

-- what is made is right
abbrev pub TimetableIsRight : BundleParts → Made → Type 0
TimetableIsRight bundle made = TimetableFilesAreRight bundle made.files

-- the inputs have no fault, no times at all are a timetable, and the listing is within the budget
pub record HasNone (bundle : BundleParts) : Type 0 where
  pub inputs : timetable_faults bundle ≡ []
  pub none : (times : List ℕ) → ¬ IsTimetable (problem_in bundle) times
  pub within : (listing (problem_in bundle)).entries ≤ budget_in bundle

-- no solution is the answer exactly there; want of memory is free
pub record SaysNone (bundle : BundleParts) (result : Result Made StageFault) : Type 0 where
  pub only : result ≡ Err (fault.Refused refusal.NoSolution) → HasNone bundle
  pub always : HasNone bundle → (result ≡ Err (fault.Refused refusal.NoSolution))
      ⊎ (result ≡ Err fault.NoMemory)

-- a budget that no listing exceeds is never spent
abbrev pub IsNeverSpent : BundleParts → Result Made StageFault → Type 0
IsNeverSpent bundle result =
    most_entries (problem_in bundle) ≤ budget_in bundle → (entries : ℕ)
    → result ≢ Err (fault.Refused (refusal.Spent entries))
