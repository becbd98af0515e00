-- What it means that a check passes.
use Rattle.std.specs.Prelude.{ℕ, ◌≡◌, List, [], ◌∷◌, Option}
use Rattle.tables.specs.declared.file_id.FileId.TheVariants as file
use Rattle.giv_files.specs.declared.made.MadeFile.{MadeFile}
use Rattle.giv_files.specs.Settings.{BundleParts}
use Rattle.line_search.specs.GivenProblems.{problem_faults, problem_of}
use Rattle.line_search.specs.Judged.{Passes}
use Rattle.line_search.specs.ConceptStage.{mark_files}
use Rattle.pesp_search.specs.Judged.{Passes as KeepsRules}
use Rattle.pesp_search.specs.TimetableStage.{problem_in, timetable_faults}
use Rattle.delay_management.specs.DispositionStage.{disposition_faults}
use Rattle.delay_management.specs.Judged.{Passes as PassesBy}

-- A concept from any hand passes over its inputs: these have no fault, and its text is the table of
-- frequencies which keep the bounds of each edge. Where a tree stands beside it, that marks it: no
-- feasible concept costs less.
pub record ConceptPasses (bundle : BundleParts) (files : List MadeFile) : Type 0 where
  pub inputs : problem_faults bundle ≡ []
  pub text : List ℕ
  pub tree : Option (List ℕ)
  pub each : files ≡ record { file = file.Concept; text = text } ∷ mark_files tree
  pub passes : Passes (problem_of bundle) text tree

-- A timetable from any hand passes over its inputs: these have no fault, and its text is the table of one
-- time for each event, which keep the bounds of each activity.
pub record TimetablePasses (bundle : BundleParts) (files : List MadeFile) : Type 0 where
  pub inputs : timetable_faults bundle ≡ []
  pub text : List ℕ
  pub one : files ≡ record { file = file.TimesP; text = text } ∷ []
  pub passes : KeepsRules (problem_in bundle) text

-- A disposition from any hand passes over its inputs: these have no fault, and there are two files.
-- The first one is the table of one time for each event, and no feasible times are earlier at any
-- event; the second one has a right reason for each.
pub record DispositionPasses (bundle : BundleParts) (files : List MadeFile) : Type 0 where
  pub inputs : disposition_faults bundle ≡ []
  pub times : List ℕ
  pub reasons : List ℕ
  pub both : files ≡ record { file = file.Disposed; text = times }
      ∷ record { file = file.Reasons; text = reasons } ∷ []
  pub passes : PassesBy bundle times reasons
