-- The definitions on a small dataset.
use Rattle.plan_num.proofs.Common.{◌≡◌, ℕ, List, [], ◌∷◌, map, refl, pos, codes, Option, Some, None}
use Rattle.tables.specs.declared.file_id.FileId.TheVariants as file
use Rattle.giv_files.specs.declared.key.Key.TheVariants as key
use Rattle.tables.specs.declared.refusal.Refusal.TheVariants as refusal
use Rattle.tables.specs.declared.row_why.RowWhy.TheVariants as why
use Rattle.giv_files.specs.declared.stage.Stage.TheVariants as stage
use Rattle.tables.specs.Inputs.{input_faults, row_faults}
use Rattle.tables.specs.Reading.{faults, table_of, cells_from, cell_of, errors, values, row_whys}
use Rattle.text_fields.specs.Rows.{rows, cleaned}
use Rattle.giv_files.proofs.Common.{BundleParts}
use Rattle.tables.specs.Writing.{cell_text, cell_texts, joined, table_text}
use Rattle.plan_num.specs.Number.{spelling_of, value_of, value_at, fixed_of, whole_of}
use Rattle.plan_num.specs.Print.{digits_at}
use Rattle.std.specs.Fmt.{digits}
use Rattle.ptn_network.specs.Loads.{loads_of}
use Rattle.ptn_network.specs.Networks.{stops_of, network_of, network_faults}
use Rattle.walks.specs.RisingIds.{by_id}
use Rattle.line_walks.specs.GivenCosts.{costs_of}
use Rattle.line_walks.specs.Pools.{walk_from, lines_of, line_faults}
use Rattle.line_cost_model.specs.Concepts.{is_feasible}
use Rattle.line_cost_model.specs.DualBounds.{bound_by}
use Rattle.line_concepts.specs.TreeFaults.{tree_faults}
use Rattle.branch_certificate.specs.TreeFiles.{nodes_of, tree_of, read_faults}
use Rattle.line_concepts.specs.Trees.{first_tree, placed_over}
use Rattle.line_search.specs.declared.fault.ConceptFault.{ConceptFault}
use Rattle.line_search.specs.declared.fault.ConceptFault.TheVariants as fault
use Rattle.line_search.specs.ConceptTables.{concept_text}
use Rattle.line_search.specs.GivenProblems.{problem_of, problem_faults}
use Rattle.line_search.specs.Judged.{first_broken}
use Rattle.line_concepts.proofs.Tried.{two}

-- ---- the line problem of a bundle

abbrev bundle : List ℕ → List ℕ → BundleParts
bundle loads costs = record {
  stage = stage.Concept;
  settings = record { key = key.ConceptBudget; value = pos 9 } ∷ [];
  inputs = codes "1; A; A; 0; 0\n2; B; B; 0; 0\n3; C; C; 0; 0\n"
      ∷ codes "1; 1; 2; 2; 4; 5\n2; 2; 3; 3; 6; 6\n"
      ∷ codes "1; 1; 1\n1; 2; 2\n2; 1; 1\n" ∷ loads ∷ costs ∷ [];
}

problems_read :
    (problem_of (bundle (codes "2; 40; 1; 3\n1; 100; 2; 3\n") (codes "2; 2; 12\n1; 5; 15\n")) ≡ two)
    -- a row for an edge that is not there, bounds that are crossed, a second row of an edge, an edge without a row; a
    -- line that is not there, a second row of a line, a line without a row
    × (problem_faults (bundle (codes "3; 100; 2; 3\n2; 40; 4; 3\n2; 1; 1; 1\n") (codes "3; 5; 15\n2; 2; 12\n2; 2; 12\n"))
    ≡ refusal.BadRow file.Load 1 why.UnknownEdge
    ∷ refusal.BadRow file.Load 2 why.BoundsCrossed
    ∷ refusal.BadRow file.Load 3 why.RepeatedId
    ∷ refusal.BadRow file.Load 0 why.MissingEdge
    ∷ refusal.BadRow file.PoolCost 1 why.UnknownLine
    ∷ refusal.BadRow file.PoolCost 3 why.RepeatedId
    ∷ refusal.BadRow file.PoolCost 0 why.MissingLine
    ∷ [])
unfolding problem_of loads_of costs_of lines_of network_of stops_of by_id walk_from table_of cells_from
    cell_of values rows cleaned spelling_of value_of value_at fixed_of whole_of problem_faults line_faults
    network_faults input_faults row_faults faults errors row_whys
problems_read = (refl, refl)

-- ---- the rules of a concept from any hand

abbrev concept : List ℕ
concept = codes "# line-id; edge-order; edge-id; frequency\n1; 1; 1; 1\n1; 2; 2; 1\n2; 1; 1; 1\n"

abbrev dear : List ℕ
dear = codes "1; 1; 1; 2\n1; 2; 2; 2\n2; 1; 1; 0\n"

abbrev tree : List ℕ
tree = codes "# kind; id; value; multiplier\nsplit; 1; 1; 0\nsplit; 1; 0; 0\nempty; 2; 1; 0\nsplit; 2; 1; 0\nsplit; 2; 0; 0\nempty; 1; 1; 0\npoint; 0; 0; 0\nbound; 0; 0; 0\nbound; 0; 0; 0\n"

written : concept_text two (1 ∷ 1 ∷ []) ≡ concept
unfolding concept_text digits digits_at cell_text cell_texts joined table_text
written = refl

-- concepts and trees, each with the rule that it breaks
abbrev judged : List (Option ConceptFault × Option ConceptFault)
judged = (first_broken two concept (Some tree), None)
    -- the last row of the tree is missing
    ∷ (
      first_broken two concept (Some (codes "split; 1; 1; 0\nsplit; 1; 0; 0\nempty; 2; 1; 0\nsplit; 2; 1; 0\nsplit; 2; 0; 0\nempty; 1; 1; 0\npoint; 0; 0; 0\nbound; 0; 0; 0\n")),
      Some fault.Tree,
    )
    -- the first split stands outside the range of its line
    ∷ (
      first_broken two concept (Some (codes "split; 1; 3; 0\nsplit; 1; 0; 0\nempty; 2; 1; 0\nsplit; 2; 1; 0\nsplit; 2; 0; 0\nempty; 1; 1; 0\npoint; 0; 0; 0\nbound; 0; 0; 0\nbound; 0; 0; 0\n")),
      Some fault.Split,
    )
    -- the second line is not driven
    ∷ (
      first_broken two (codes "1; 1; 1; 1\n1; 2; 2; 1\n2; 1; 1; 0\n") (Some tree),
      Some fault.Bounds,
    )
    -- the first line is driven twice, which costs more than the point; without a tree it passes
    ∷ (first_broken two dear (Some tree), Some fault.Point) ∷ (first_broken two dear None, None)
    -- a line with two frequencies; an edge too few; rows in another order; no table
    ∷ (first_broken two (codes "1; 1; 1; 1\n1; 2; 2; 2\n2; 1; 1; 1\n") None, Some fault.Lines)
    ∷ (first_broken two (codes "1; 1; 1; 1\n2; 1; 1; 1\n") None, Some fault.Lines)
    ∷ (first_broken two (codes "2; 1; 1; 1\n1; 1; 1; 1\n1; 2; 2; 1\n") None, Some fault.Lines)
    ∷ (first_broken two (codes "1; 1; 1\n") None, Some fault.Row) ∷ []

each_breaks_it : map (λ at. at.0) judged ≡ map (λ at. at.1) judged
unfolding first_broken is_feasible tree_faults first_tree placed_over bound_by read_faults tree_of nodes_of input_faults row_faults faults table_of cells_from cell_of values errors row_whys rows cleaned spelling_of value_of value_at fixed_of whole_of
each_breaks_it = refl
