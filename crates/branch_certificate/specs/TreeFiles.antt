-- The file of a tree: its rows, its rules, and the nodes that they are.
use Rattle.std.specs.Prelude.{ℕ, ℤ, pos, ◌-◌, ◌&&◌, ◌||◌, nat_lt, not, int_lt, if◌then◌else◌, Bool}
use Rattle.std.specs.Prelude.{List, [], ◌∷◌, ◌++◌, map, reverse, take, get_or, position}
use Rattle.std.specs.Prelude.{unsigned_abs, Some, unwrap_or, slice_get, ◌≡◌, Result, Ok, Err, ⊤}
use Rattle.std.specs.List.{list_any, fold, prefix_len}
use Rattle.std.specs.Ordering.{int_eq}
use Rattle.tables.specs.declared.file_id.FileId.TheVariants as file
use Rattle.tables.specs.declared.refusal.Refusal.{Refusal}
use Rattle.tables.specs.declared.refusal.Refusal.TheVariants as refusal
use Rattle.tables.specs.declared.row_why.RowWhy.TheVariants as why
use Rattle.tables.specs.Columns.{tree_columns}
use Rattle.tables.specs.Inputs.{Input, RowRule, TableRule, records_of, input_faults, whole_rule}
use Rattle.line_cost_model.specs.declared.multipliers.Multiplier.{Multiplier}
use Rattle.line_cost_model.specs.declared.side.Side.{Side}
use Rattle.line_cost_model.specs.declared.side.Side.TheVariants as side
use Rattle.line_cost_model.specs.Problems.{ProblemParts}
use Rattle.line_concepts.specs.declared.node.Node.{Node}
use Rattle.line_concepts.specs.declared.node.Node.TheVariants as node
use Rattle.branch_certificate.specs.declared.read_fault.TreeReadFault.{TreeReadFault}
use Rattle.branch_certificate.specs.declared.read_fault.TreeReadFault.TheVariants as read
use Rattle.branch_certificate.specs.declared.tree_row.TreeRow.{TreeRow}

-- the row of a tree
abbrev pub tree_row : List ℤ → TreeRow
tree_row cells = record {
  kind = get_or cells 0 (pos 0);
  id = get_or cells 1 (pos 0);
  value = get_or cells 2 (pos 0);
  multiplier = get_or cells 3 (pos 0);
}

-- the kinds of rows, by the places of their words
abbrev pub is_split : TreeRow → Bool
is_split row = int_eq row.kind (pos 0)

abbrev pub is_empty : TreeRow → Bool
is_empty row = int_eq row.kind (pos 1)

abbrev pub is_bound : TreeRow → Bool
is_bound row = int_eq row.kind (pos 2)

abbrev pub is_multiplier : TreeRow → Bool
is_multiplier row = int_eq row.kind (pos 3)

abbrev pub is_point : TreeRow → Bool
is_point row = int_eq row.kind (pos 4)

-- the ids of the lines and of the edges of a line problem, which the rows of a tree name
pub record NamedIds : Type 0 where
  pub lines : List ℤ
  pub edges : List ℤ

abbrev pub ids_of : ProblemParts → NamedIds
ids_of problem = record {
  lines = map (λ line. line.id) problem.lines;
  edges = map (λ edge. edge.id) problem.edges;
}

-- a line or an edge of an id is there
abbrev pub has_line : NamedIds → ℤ → Bool
has_line ids id = list_any (int_eq id) ids.lines

abbrev pub has_edge : NamedIds → ℤ → Bool
has_edge ids id = list_any (int_eq id) ids.edges

-- how many multipliers a row announces
abbrev pub announced : TreeRow → ℕ
announced row = if is_bound row then unsigned_abs row.id else 0

-- how many multipliers are due behind a row, where some were due before it: one less behind a
-- multiplier,
-- and behind the row of a node those that it announces
abbrev pub due_behind : ℕ → TreeRow → ℕ
due_behind due row = if is_multiplier row then due - 1 else announced row

-- how many are due behind rows
abbrev pub due_after : List TreeRow → ℕ
due_after rows = fold due_behind 0 rows

abbrev pub is_due : List TreeRow → Bool
is_due rows = nat_lt 0 (due_after rows)

-- the edge of a multiplier does not rise over that of a multiplier right before it
abbrev pub falls_back : List TreeRow → TreeRow → Bool
falls_back before row =
    list_any (λ last. is_multiplier last && not (int_lt last.id row.id)) (take 1 (reverse before))

-- a cell is not 0 where only 0 may stand: the multiplier but of a multiplier, the value but of a
-- split or of
-- an empty edge, the id of a point
abbrev pub has_stray_cell : TreeRow → Bool
has_stray_cell row =
    not (is_multiplier row || int_eq row.multiplier (pos 0))
    || not (is_split row || is_empty row || int_eq row.value (pos 0))
    || (is_point row && not (int_eq row.id (pos 0)))

-- the rule that the line of a split is there
abbrev pub known_line : NamedIds → RowRule TreeRow
known_line ids = record {
  is_broken = λ _ row. is_split row && not (has_line ids row.id);
  why = why.UnknownLine;
}

-- the rule that the edge of a row is there
abbrev pub known_edge : NamedIds → RowRule TreeRow
known_edge ids = record {
  is_broken = λ _ row. (is_empty row || is_multiplier row) && not (has_edge ids row.id);
  why = why.UnknownEdge;
}

-- a rule by which a row is out of order
abbrev pub order_rule : (List TreeRow → TreeRow → Bool) → RowRule TreeRow
order_rule is_broken = record { is_broken = is_broken; why = why.OrderGap }

-- the rule that a multiplier stands exactly where one is due
abbrev pub as_due : RowRule TreeRow
as_due = order_rule (λ before row. if is_multiplier row then not (is_due before) else is_due before)

-- the rule that the edges of multipliers rise, and that none is 0
abbrev pub rising_edges : RowRule TreeRow
rising_edges =
    order_rule (λ before row. is_multiplier row &&
    (falls_back before row || int_eq row.multiplier (pos 0)))

-- the rule that an empty edge has one of two sides
abbrev pub one_side : RowRule TreeRow
one_side = order_rule (λ _ row. is_empty row && int_lt (pos 1) row.value)

-- the rule that only 0 stands where nothing is said
abbrev pub no_stray_cell : RowRule TreeRow
no_stray_cell = order_rule (λ _ row. has_stray_cell row)

-- the rule that at the end no multiplier is due
abbrev pub none_due : TableRule TreeRow
none_due = whole_rule is_due why.OrderGap

-- the rules of the rows of a tree
abbrev pub tree_rules : NamedIds → List (RowRule TreeRow)
tree_rules ids =
    known_line ids ∷ known_edge ids ∷ as_due ∷ rising_edges ∷ one_side ∷ no_stray_cell ∷ []

-- the file of a tree over the lines and the edges of these ids
abbrev pub tree_input : NamedIds → Input TreeRow
tree_input ids = record {
  file = file.Tree;
  columns = tree_columns;
  read = tree_row;
  limits = [];
  row_rules = tree_rules ids;
  table_rules = none_due ∷ [];
}

-- the index of the line or the edge of an id
abbrev pub line_index : NamedIds → ℤ → ℕ
line_index ids id = unwrap_or (position (int_eq id) ids.lines) 0

abbrev pub edge_index : NamedIds → ℤ → ℕ
edge_index ids id = unwrap_or (position (int_eq id) ids.edges) 0

-- the multiplier of a row
abbrev pub multiplier_in : NamedIds → TreeRow → Multiplier
multiplier_in ids row = record {
  edge = edge_index ids row.id;
  amount = unsigned_abs row.multiplier;
}

-- the rows of multipliers that stand right behind a node
abbrev pub multiplier_rows : List TreeRow → List TreeRow
multiplier_rows behind = take (prefix_len is_multiplier behind) behind

-- the side of an empty edge by its value
abbrev pub side_of : ℤ → Side
side_of value = if int_eq value (pos 0) then side.Over else side.Under

-- the node of a row, with the rows behind it; a row of a multiplier is none
abbrev pub node_of : NamedIds → TreeRow → List TreeRow → List Node
node_of ids row behind =
    if is_split row then node.Split (line_index ids row.id) (unsigned_abs row.value) ∷ []
    else (if is_empty row then node.Empty (edge_index ids row.id) (side_of row.value) ∷ []
    else (if is_bound row then node.Bound (map (multiplier_in ids) (multiplier_rows behind)) ∷ []
    else (if is_point row then node.Point ∷ [] else [])))

-- the nodes of rows
unfoldable pub nodes_of : NamedIds → List TreeRow → List Node
nodes_of ids [] = []
nodes_of ids (row ∷ rows) = node_of ids row rows ++ nodes_of ids rows

-- the nodes of a text over a line problem, and every fault of that text in order
unfoldable pub tree_of : ProblemParts → List ℕ → List Node
tree_of problem text =
    nodes_of (ids_of problem) (records_of (tree_input (ids_of problem)) text)

unfoldable pub read_faults : ProblemParts → List ℕ → List Refusal
read_faults problem text = input_faults (tree_input (ids_of problem)) text

-- what reading a tree gives: its nodes where the text has no fault, and else the first of all
-- faults; want
-- of memory is free
abbrev pub TreeGives : List Refusal → List Node → Result (List Node) TreeReadFault → Type 0
TreeGives all nodes (Ok read) = (all ≡ []) × (read ≡ nodes)
TreeGives all nodes (Err (read.Row first)) =
    slice_get all 0 ≡ Some (refusal.BadRow file.Tree first.row first.why)
TreeGives all nodes (Err read.NoMemory) = ⊤
