-- The stage of line concepts: from bounds of frequency and costs of lines to a concept and its mark.
use Rattle.std.specs.Prelude.{ℕ, pos, List, [], ◌∷◌, ◌++◌, codes, decimal, Option, Some, None}
use Rattle.std.specs.Prelude.{Result, Ok, Err, Bool, if◌then◌else◌, is_some, option_map}
use Rattle.plan_num.specs.Print.{fixed_text}
use Rattle.tables.specs.declared.file_id.FileId.TheVariants as file
use Rattle.giv_files.specs.declared.key.Key.TheVariants as key
use Rattle.giv_files.specs.declared.made.Made.{Made}
use Rattle.giv_files.specs.declared.made.MadeFile.{MadeFile}
use Rattle.tables.specs.declared.refusal.Refusal.{Refusal}
pub use Rattle.giv_files.specs.StageCalls.{after_faults, work_after}
use Rattle.giv_files.specs.Settings.{BundleParts, amount}
use Rattle.line_cost_model.specs.Problems.{ProblemParts}
use Rattle.line_cost_model.specs.Concepts.{cost_of}
use Rattle.line_concepts.specs.declared.node.Node.{Node}
use Rattle.branch_certificate.specs.TreeTexts.{tree_text}
use Rattle.line_concepts.specs.Budgets.{entries_listed}
use Rattle.line_search.specs.ConceptResults.{FoundConcept, result_within}
use Rattle.line_search.specs.ConceptTables.{concept_text}
use Rattle.line_search.specs.GivenProblems.{problem_faults, problem_of}
use Rattle.line_concepts.specs.Listings.{listing}

-- how many entries may be listed
abbrev pub budget_of : BundleParts → ℕ
budget_of bundle = amount bundle.settings key.ConceptBudget

-- the file of the text that marks a concept, where there is one, and that of a tree
abbrev pub mark_files : Option (List ℕ) → List MadeFile
mark_files None = []
mark_files (Some text) = record { file = file.Tree; text = text } ∷ []

abbrev pub tree_files : ProblemParts → Option (List Node) → List MadeFile
tree_files problem tree = mark_files (option_map (tree_text problem) tree)

-- how a report tells of a mark
abbrev pub mark_word : Bool → List ℕ
mark_word is_marked = if is_marked then codes "optimal" else codes "not proved optimal"

abbrev pub mark_text : Option (List Node) → List ℕ
mark_text tree = mark_word (is_some tree)

-- what is made of a concept: its table, the tree that marks it, and the line of the report
abbrev pub concept_made : ProblemParts → FoundConcept → Made
concept_made problem concept = record {
  files = record { file = file.Concept; text = concept_text problem concept.frequencies }
      ∷ tree_files problem concept.tree;
  report = codes "concept: cost " ++ fixed_text (pos (cost_of problem concept.frequencies)) ++ codes ", "
      ++ mark_text concept.tree ++ codes ", " ++ decimal concept.entries ++ codes " entries";
}

-- what is made of the concept that a search found, or why it found none
abbrev pub search_made : ProblemParts → Result FoundConcept Refusal → Result Made Refusal
search_made problem (Err why) = Err why
search_made problem (Ok concept) = Ok (concept_made problem concept)

-- the stage: from settings and input texts to what is made, or the first fault, or why the search found no
-- concept
unfoldable pub concept_stage : BundleParts → Result Made Refusal
concept_stage bundle =
    after_faults (problem_faults bundle)
    (search_made (problem_of bundle) (result_within (budget_of bundle) (listing (problem_of bundle))))

-- how many steps it takes: one, and where the inputs have no fault one for each entry that is listed
unfoldable pub concept_work : BundleParts → ℕ
concept_work bundle =
    work_after (problem_faults bundle) (entries_listed (budget_of bundle) (listing (problem_of bundle)))
