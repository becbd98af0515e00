-- The texts of small trees.
use Rattle.plan_num.proofs.Common.{◌≡◌, ℕ, List, [], ◌∷◌, ◌++◌, refl, pos, codes, slice_get, Some}
use Rattle.std.specs.Fmt.{digits}
use Rattle.tables.specs.declared.file_id.FileId.TheVariants as file
use Rattle.tables.specs.declared.refusal.Refusal.{Refusal}
use Rattle.tables.specs.declared.refusal.Refusal.TheVariants as refusal
use Rattle.tables.specs.declared.row_why.RowWhy.TheVariants as why
use Rattle.tables.specs.Inputs.{input_faults, row_faults}
use Rattle.tables.specs.Reading.{faults, table_of, cells_from, cell_of, errors, values, row_whys}
use Rattle.text_fields.specs.Rows.{rows, cleaned}
use Rattle.tables.specs.Writing.{cell_text, cell_texts, joined, table_text}
use Rattle.plan_num.specs.Number.{spelling_of, value_of, value_at, fixed_of, whole_of}
use Rattle.plan_num.specs.Print.{digits_at}
use Rattle.line_cost_model.proofs.Common.{ProblemParts}
use Rattle.line_cost_model.specs.DualBounds.{bound_by}
use Rattle.line_concepts.specs.declared.fault.TreeFault.TheVariants as fault
use Rattle.line_concepts.specs.TreeFaults.{tree_faults}
use Rattle.branch_certificate.specs.TreeFiles.{nodes_of, tree_of, read_faults}
use Rattle.branch_certificate.specs.TreeTexts.{tree_text}
use Rattle.line_concepts.specs.Trees.{first_tree, placed_over}
use Rattle.line_concepts.proofs.Tried.{edge, lines, nodes, two}

abbrev rows_below : List ℕ
rows_below = codes "split; 1; 0; 0\nempty; 2; 1; 0\nsplit; 2; 1; 0\n"
    ++ codes "split; 2; 0; 0\nempty; 1; 1; 0\npoint; 0; 0; 0\n"
    ++ codes "bound; 0; 0; 0\nbound; 0; 0; 0\n"

abbrev header : List ℕ
header = codes "# kind; id; value; multiplier\n"

-- trees that are read and judged
trees_as_texts :
    (tree_text two nodes ≡ header ++ codes "split; 1; 1; 0\n" ++ rows_below)
    × (read_faults two (header ++ codes "split; 1; 1; 0\n" ++ rows_below) ≡ [])
    × (tree_of two (header ++ codes "split; 1; 1; 0\n" ++ rows_below) ≡ nodes)
    -- the first fault of the same rows with another first row, which splits outside its line's range
    × (slice_get (tree_faults two (pos 27000000)
    (tree_of two (header ++ codes "split; 1; 3; 0\n" ++ rows_below))) 0
    ≡ Some (fault.Split 0))
    -- without their last row a leaf is missing
    × (tree_faults two (pos 27000000)
    (tree_of two (codes "split; 1; 1; 0\nsplit; 1; 0; 0\nempty; 2; 1; 0\n"
    ++ codes "split; 2; 1; 0\nsplit; 2; 0; 0\nempty; 1; 1; 0\n"
    ++ codes "point; 0; 0; 0\nbound; 0; 0; 0\n"))
    ≡ fault.Shape 8 ∷ [])
unfolding tree_text table_text cell_texts cell_text joined digits digits_at read_faults input_faults
    row_faults faults table_of cells_from cell_of values errors row_whys rows cleaned spelling_of value_of
    value_at fixed_of whole_of tree_of nodes_of tree_faults first_tree placed_over bound_by
trees_as_texts = (refl, refl, refl, refl, refl)

-- ---- a tree with a multiplier

-- the second edge need not be driven
abbrev loose : ProblemParts
loose = record { edges = edge 1 2 3 ∷ edge 2 0 3 ∷ []; lines = lines }

-- the rows of a tree that certifies that no concept costs less than 24, up to its multiplier
abbrev rows_before : List ℕ
rows_before = codes "split; 1; 1; 0\nsplit; 1; 0; 0\nsplit; 2; 1; 0\n"
    ++ codes "empty; 1; 1; 0\nsplit; 2; 2; 0\npoint; 0; 0; 0\n"
    ++ codes "bound; 0; 0; 0\nbound; 1; 0; 0\n"

bounds_of_multipliers :
    (tree_faults loose (pos 24000000)
    (tree_of loose (rows_before ++ codes "mult; 1; 0; 12\nbound; 0; 0; 0\n"))
    ≡ [])
    -- a multiplier that takes more off the second line than it costs
    × (tree_faults loose (pos 24000000)
    (tree_of loose (rows_before ++ codes "mult; 1; 0; 12.000001\nbound; 0; 0; 0\n"))
    ≡ fault.Multiplier 7 ∷ [])
    -- one that is too little: 15 and 8 are not 24
    × (tree_faults loose (pos 24000000)
    (tree_of loose (rows_before ++ codes "mult; 1; 0; 8\nbound; 0; 0; 0\n"))
    ≡ fault.Bound 7 ∷ [])
unfolding tree_faults first_tree placed_over bound_by tree_of nodes_of table_of cells_from cell_of values rows
    cleaned spelling_of value_of value_at fixed_of whole_of
bounds_of_multipliers = (refl, refl, refl)

-- ---- what reading refuses

-- a row that is out of order
abbrev gap : ℕ → Refusal
gap row = refusal.BadRow file.Tree row why.OrderGap

broken_texts :
    -- a text that ends where a multiplier is due
    (read_faults loose (codes "bound; 2; 0; 0\nmult; 1; 0; 1\n") ≡ gap 0 ∷ [])
    × (read_faults loose (codes "bound; 1000000000; 0; 0\nmult; 1; 0; 1\n") ≡ gap 0 ∷ [])
    -- a row that breaks several rules: the edge is looked at first
    × (slice_get (read_faults loose (codes "mult; 3; 1; 0\n")) 0
    ≡ Some (refusal.BadRow file.Tree 1 why.UnknownEdge))
    × (read_faults loose (codes "split; 3; 0; 0\nempty; 3; 0; 0\n")
    ≡ refusal.BadRow file.Tree 1 why.UnknownLine ∷ refusal.BadRow file.Tree 2 why.UnknownEdge ∷ [])
    -- a multiplier that is not due, edges that do not rise, a multiplier of 0, a side that is none,
    -- cells that are not 0
    × (read_faults loose (codes "point; 0; 0; 0\nmult; 1; 0; 1\nbound; 3; 0; 0\n"
    ++ codes "mult; 2; 0; 1\nmult; 1; 0; 1\nmult; 2; 0; 0\n"
    ++ codes "empty; 1; 2; 0\npoint; 1; 0; 0\nsplit; 1; 0; 1\n")
    ≡ gap 2 ∷ gap 5 ∷ gap 6 ∷ refusal.BadRow file.Tree 7 why.OrderGap
    ∷ gap 8 ∷ gap 9 ∷ [])
unfolding read_faults input_faults row_faults faults table_of cells_from cell_of values errors row_whys rows
    cleaned spelling_of value_of value_at fixed_of whole_of
broken_texts = (refl, refl, refl, refl, refl)
