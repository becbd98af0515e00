-- What is right about a concept from a planner's hand.
use Rattle.std.specs.Prelude.{◌≡◌, ℕ, List, [], ◌∷◌, Option, None, IfSome}
use Rattle.tables.specs.declared.file_id.FileId.TheVariants as file
use Rattle.giv_files.specs.declared.made.MadeFile.{MadeFile}
use Rattle.tables.specs.Columns.{concept_columns}
use Rattle.giv_files.specs.Settings.{BundleParts}
use Rattle.tables.specs.Writing.{ReadsBack}
use Rattle.ptn_network.specs.Networks.{network_in}
use Rattle.line_walks.specs.Pools.{concept_faults}
use Rattle.line_cost_model.specs.Concepts.{IsFeasible}
use Rattle.line_search.specs.ConceptTables.{concept_rows}
use Rattle.line_search.specs.GivenProblems.{problem_faults, problem_of}
use Rattle.line_search.specs.Judged.{Marks, first_broken}
use Rattle.line_search.specs.ConceptStage.{mark_files}

-- The files of a concept are right: the inputs have no fault; read again, the first one has a
-- feasible frequency for each line; where a second one stands beside it, it marks them, so no
-- feasible concept costs less. The files break no rule of a concept from any hand, and the first
-- one has no fault by the rules of its kind.
pub record ConceptIsRight (bundle : BundleParts) (files : List MadeFile) : Type 0 where
  pub inputs : problem_faults bundle ≡ []
  pub text : List ℕ
  pub tree : Option (List ℕ)
  pub each : files ≡ record { file = file.Concept; text = text } ∷ mark_files tree
  pub frequencies : List ℕ
  pub reads : ReadsBack concept_columns (concept_rows (problem_of bundle) frequencies) text
  pub feasible : IsFeasible (problem_of bundle) frequencies
  pub marked : IfSome tree (λ tree. Marks (problem_of bundle) frequencies tree)
  pub passes : first_broken (problem_of bundle) text tree ≡ None
  pub accepted : concept_faults (network_in bundle.inputs) text ≡ []
