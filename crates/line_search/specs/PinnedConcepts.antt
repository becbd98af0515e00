-- The stage of a concept that a planner gives: its file, its rules, and what is made of it. The
-- inputs are those of the search, the text of the concept and that of a tree.
use Rattle.std.specs.Prelude.{ℕ, ℤ, pos, not, if◌then◌else◌, Bool, List, [], ◌∷◌, ◌++◌, map, filter}
use Rattle.std.specs.Prelude.{take, get_or, is_some, codes, Option, Some, None, Result}
use Rattle.std.specs.List.{flat_map}
use Rattle.std.specs.Ordering.{int_eq}
use lib.Pointwise.{pointwise}
use Rattle.plan_num.specs.Print.{fixed_text}
use Rattle.tables.specs.declared.file_id.FileId.TheVariants as file
use Rattle.giv_files.specs.declared.made.Made.{Made}
use Rattle.tables.specs.declared.refusal.Refusal.{Refusal}
use Rattle.tables.specs.declared.row_why.RowWhy.TheVariants as why
use Rattle.giv_files.specs.declared.stage.Stage.TheVariants as stage
use Rattle.tables.specs.Columns.{concept_columns}
use Rattle.tables.specs.Inputs.{Input, RowRule, input_faults, whole_rule}
use Rattle.giv_files.specs.ReportLines.{report_line}
use Rattle.giv_files.specs.Settings.{BundleParts}
use Rattle.giv_files.specs.StageCalls.{input_text, unless_fault}
use Rattle.tables.specs.Tables.{TableRow}
use Rattle.walks.specs.RisingIds.{rising}
use Rattle.line_walks.specs.Pools.{differs}
use Rattle.line_cost_model.specs.Concepts.{cost_of, is_feasible}
use Rattle.line_cost_model.specs.Problems.{ProblemParts}
use Rattle.line_concepts.specs.declared.node.Node.{Node}
use Rattle.branch_certificate.specs.TreeFiles.{tree_of}
use Rattle.line_search.specs.ConceptStage.{mark_word, tree_files}
use Rattle.line_search.specs.ConceptTables.{concept_rows, concept_text, frequencies_in}
use Rattle.line_search.specs.GivenProblems.{problem_faults, problem_of}
use Rattle.line_search.specs.Judged.{frequencies_of, tree_rule}

-- the line of a row, and the frequency of the first of some rows
abbrev pub line_in : TableRow → ℤ
line_in row = get_or row.cells 0 (pos 0)

abbrev pub frequency_at : TableRow → ℤ
frequency_at row = get_or row.cells 3 (pos 0)

abbrev pub first_of_line : List TableRow → Option ℤ
first_of_line [] = None
first_of_line (row ∷ rows) = Some (frequency_at row)

-- the rows of a line, and all rows line by line, by the ids of the lines
abbrev pub rows_with : List TableRow → ℤ → List TableRow
rows_with rows line = filter (λ row. int_eq line (line_in row)) rows

abbrev pub by_lines : List TableRow → List TableRow
by_lines rows = flat_map (rows_with rows) (rising (map line_in rows))

-- the rule that a row has the frequency of its line's first row
abbrev pub same_frequency : RowRule TableRow
same_frequency = record {
  is_broken = λ before row. differs (frequency_at row)
      (first_of_line (rows_with before (line_in row)));
  why = why.FrequencyDiffers;
}

-- the lines of rows, the places in them and the edges there
abbrev pub places_of : List TableRow → List (List ℤ)
places_of rows = map (λ row. take 3 row.cells) rows

-- rows, line by line, are not those of the pool
abbrev pub differs_from_pool : ProblemParts → List TableRow → Bool
differs_from_pool problem rows =
    not (pointwise (pointwise int_eq) (places_of (by_lines rows))
    (places_of (concept_rows problem (frequencies_in problem rows))))

abbrev pub breaks_bounds : ProblemParts → List TableRow → Bool
breaks_bounds problem rows = not (is_feasible problem (frequencies_in problem rows))

-- the file of the concept
abbrev pub pinned_input : ProblemParts → Input TableRow
pinned_input problem = record {
  file = file.PinnedConcept;
  columns = concept_columns;
  read = λ cells. record { number = 0; cells = cells };
  limits = [];
  row_rules = same_frequency ∷ [];
  table_rules = whole_rule (differs_from_pool problem) why.PoolDiffers
      ∷ whole_rule (breaks_bounds problem) why.NotFeasible ∷ [];
}

-- every fault of a bundle, in the order of its inputs; the text of the tree has none
abbrev pub pinned_concept_faults : BundleParts → List Refusal
pinned_concept_faults bundle =
    problem_faults bundle ++ input_faults (pinned_input (problem_of bundle)) (input_text bundle 5)

-- the tree of a text, where it is one and certifies what a concept costs
abbrev pub marking_tree : ProblemParts → ℕ → List ℕ → Option (List Node)
marking_tree problem cost text =
    if is_some (tree_rule problem cost (Some text)) then None else Some (tree_of problem text)

-- the line of the report
abbrev pub pinned_report : ProblemParts → List ℕ → Bool → List ℕ
pinned_report problem frequencies is_marked = report_line stage.Concept ((codes "cost "
    ++ fixed_text (pos (cost_of problem frequencies)))
    ∷ mark_word is_marked ∷ codes "pinned" ∷ [])

-- what is made of frequencies and a tree: both are written anew
abbrev pub pinned_made : ProblemParts → List ℕ → Option (List Node) → Made
pinned_made problem frequencies tree = record {
  files = record { file = file.Concept; text = concept_text problem frequencies } ∷ tree_files
      problem tree;
  report = pinned_report problem frequencies (is_some tree);
}

-- what is made of the texts of a concept and of a tree
abbrev pub made_of_texts : ProblemParts → List ℕ → List ℕ → Made
made_of_texts problem concept tree =
    let frequencies = frequencies_of problem concept in
    pinned_made problem frequencies (marking_tree problem (cost_of problem frequencies) tree)

-- the stage
unfoldable pub pinned_concept_stage : BundleParts → Result Made Refusal
pinned_concept_stage bundle =
    unless_fault (pinned_concept_faults bundle)
    (made_of_texts (problem_of bundle) (input_text bundle 5) (input_text bundle 6))
