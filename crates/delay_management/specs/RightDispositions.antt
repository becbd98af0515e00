-- What is right about the disposition that is made.
use Rattle.std.specs.Prelude.{◌≡◌, ℕ, List, [], ◌∷◌, None}
use Rattle.tables.specs.declared.file_id.FileId.TheVariants as file
use Rattle.giv_files.specs.declared.made.Made.{Made}
use Rattle.giv_files.specs.declared.made.MadeFile.{MadeFile}
use Rattle.tables.specs.Columns.{disposed_columns, reasons_columns}
use Rattle.tables.specs.Inputs.{input_faults}
use Rattle.giv_files.specs.Settings.{BundleParts}
use Rattle.event_tables.specs.Cells.{disposed_time}
use Rattle.event_tables.specs.DisposedTimes.{disposed_time_input}
use Rattle.event_tables.specs.ExpandedFiles.{expanded_event_ids}
use Rattle.tables.specs.RowsOfTables.{ReadsAs}
use Rattle.propagation.specs.declared.reason.Reason.{Reason}
use Rattle.delay_management.specs.DispositionStage.{disposition_faults, events_in, kept_in, problem_in, reason_rows}
use Rattle.delay_management.specs.DispositionStage.{time_rows}
use Rattle.delay_management.specs.Judged.{first_broken_rule, reason_row}
use Rattle.propagation.specs.Reasons.{AreRight, canonical_reasons}
use Rattle.propagation.specs.Waiting.{IsDisposition}
use Rattle.delay_management.specs.WaitSettings.{wait_of}

-- The files that are made are right: the inputs have no fault, and there are two files. Read again,
-- the first one has the disposition, so one time for each event in order, and no feasible times are
-- earlier at any event; there is no other disposition. The second one has the reasons that are
-- written of these times, and each is right.
-- The two break no rule of a disposition from any hand, and the first one has no fault by the rules
-- of its kind.
pub record DispositionFilesAreRight (bundle : BundleParts) (files : List MadeFile) : Type 0 where
  pub inputs : disposition_faults bundle ≡ []
  pub times : List ℕ
  pub reasons : List Reason
  pub times_text : List ℕ
  pub reasons_text : List ℕ
  pub both : files ≡ record { file = file.Disposed; text = times_text }
      ∷ record { file = file.Reasons; text = reasons_text } ∷ []
  pub disposition : IsDisposition (problem_in bundle) (wait_of bundle.settings) times
  pub only : (others : List ℕ)
      → IsDisposition (problem_in bundle) (wait_of bundle.settings) others → others ≡ times
  pub written : reasons ≡ canonical_reasons (problem_in bundle) (kept_in bundle) times
  pub right : AreRight (problem_in bundle) (kept_in bundle) times reasons
  pub times_back : ReadsAs disposed_columns disposed_time (time_rows times) times_text
  pub reasons_back : ReadsAs reasons_columns reason_row (reason_rows reasons) reasons_text
  pub passes : first_broken_rule (problem_in bundle) (kept_in bundle) times_text reasons_text ≡ None
  pub accepted : input_faults (disposed_time_input (expanded_event_ids (events_in bundle)))
      times_text ≡ []

-- what is made is right
abbrev pub DispositionIsRight : BundleParts → Made → Type 0
DispositionIsRight bundle made = DispositionFilesAreRight bundle made.files
