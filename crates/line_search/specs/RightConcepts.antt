-- What is right about the concept that a search finds, and about the files that are made of it.
use Rattle.std.specs.Prelude.{◌≡◌, ℕ, ◌≤◌, List, [], ◌∷◌, length, Option, None, ◌⊎◌, IfSome}
use Rattle.std.specs.Prelude.{Result, Ok, Err, ⊤}
use Rattle.tables.specs.declared.file_id.FileId.TheVariants as file
use Rattle.giv_files.specs.declared.made.Made.{Made}
use Rattle.giv_files.specs.declared.made.MadeFile.{MadeFile}
use Rattle.tables.specs.declared.refusal.Refusal.TheVariants as refusal
use Rattle.tables.specs.declared.refusal.StageFault.{StageFault}
use Rattle.tables.specs.declared.refusal.StageFault.TheVariants as fault
use Rattle.tables.specs.Columns.{concept_columns}
use Rattle.giv_files.specs.Settings.{BundleParts}
use Rattle.tables.specs.Writing.{ReadsBack}
use Rattle.ptn_network.specs.Networks.{network_in}
use Rattle.line_walks.specs.Pools.{concept_faults}
use Rattle.line_cost_model.specs.Chosen.{IsChosen}
use Rattle.line_cost_model.specs.Concepts.{IsFeasible}
use Rattle.line_cost_model.specs.Problems.{ProblemParts}
use Rattle.line_search.specs.ConceptStage.{budget_of, mark_files}
use Rattle.line_search.specs.ConceptTables.{concept_rows}
use Rattle.line_search.specs.GivenProblems.{problem_faults, problem_of}
use Rattle.line_search.specs.Judged.{Marks, first_broken}
use Rattle.line_concepts.specs.Listings.{listing}
use Rattle.line_concepts.specs.RightSearches.{NoneIsFeasible}

-- the inputs have no fault, no concept is feasible, and the listing is within the budget
pub record HasNone (bundle : BundleParts) : Type 0 where
  pub inputs : problem_faults bundle ≡ []
  pub none : NoneIsFeasible (problem_of bundle)
  pub within : length (listing (problem_of bundle)) ≤ budget_of bundle

-- no solution is the answer exactly there; want of memory is free
pub record SaysNone (bundle : BundleParts) (result : Result Made StageFault) : Type 0 where
  pub only : result ≡ Err (fault.Refused refusal.NoSolution) → HasNone bundle
  pub always : HasNone bundle → (result ≡ Err (fault.Refused refusal.NoSolution))
      ⊎ (result ≡ Err fault.NoMemory)

-- an outcome that no budget cut short: a concept with its mark, or a refusal that names no entries
abbrev pub IsWhole : Result Made StageFault → Type 0
IsWhole (Ok made) = length made.files ≡ 2
IsWhole (Err (fault.Refused (refusal.Spent entries))) = ⊥
IsWhole (Err _) = ⊤

-- A mark means that frequencies are the chosen ones: no feasible concept costs less, and none of
-- equal cost comes before it; and the text of the tree certifies what they cost.
pub record IsMarked (problem : ProblemParts) (frequencies : List ℕ) (text : List ℕ) : Type 0 where
  pub chosen : IsChosen problem frequencies
  pub marks : Marks problem frequencies text

-- The files that are made are right: the inputs have no fault, and there is one file, and a second
-- one where the concept is marked. The first one, read again, has a frequency for each line, and
-- these are feasible over the inputs. The files break no rule of a concept from any hand, and the
-- first one has no fault by the rules of its kind.
pub record ConceptFilesAreRight (bundle : BundleParts) (files : List MadeFile) : Type 0 where
  pub inputs : problem_faults bundle ≡ []
  pub text : List ℕ
  pub tree : Option (List ℕ)
  pub each : files ≡ record { file = file.Concept; text = text } ∷ mark_files tree
  pub frequencies : List ℕ
  pub reads : ReadsBack concept_columns (concept_rows (problem_of bundle) frequencies) text
  pub feasible : IsFeasible (problem_of bundle) frequencies
  pub marked : IfSome tree (IsMarked (problem_of bundle) frequencies)
  pub passes : first_broken (problem_of bundle) text tree ≡ None
  pub accepted : concept_faults (network_in bundle.inputs) text ≡ []
