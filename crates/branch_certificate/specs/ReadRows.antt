-- Inner words of reading a tree: what a row says, and what is known after some rows.
use Rattle.std.specs.Prelude.{◌≡◌, ℕ, ℤ, pos, ◌+◌, ◌-◌, ◌^◌, ◌<◌, ◌≤ℤ◌, ◌&&◌, ◌||◌, not, nat_lt}
use Rattle.std.specs.Prelude.{if◌then◌else◌, Bool, false, true, List, [], ◌∷◌, ◌++◌, length, map}
use Rattle.std.specs.Prelude.{take, drop, position, slice_get, unsigned_abs, Option, option_map}
use Rattle.std.specs.Prelude.{unwrap_or, Some, None, All, ⊤}
use Rattle.std.specs.List.{list_any}
use Rattle.std.specs.List.Sorted.{IsStrictlySortedBy}
use Rattle.std.specs.Ordering.{int_cmp, int_eq}
use Rattle.tables.specs.declared.file_id.FileId.TheVariants as file
use Rattle.tables.specs.declared.refusal.Refusal.{Refusal}
use Rattle.tables.specs.declared.refusal.Refusal.TheVariants as refusal
use Rattle.tables.specs.declared.row_why.RowWhy.{RowWhy}
use Rattle.tables.specs.declared.row_why.RowWhy.TheVariants as why
use Rattle.tables.specs.declared.read_fault.ReadFault.{ReadFault}
use Rattle.tables.specs.declared.read_fault.ReadFault.TheVariants as row
use Rattle.tables.specs.declared.read_fault.RowFault.{RowFault}
use Rattle.tables.specs.Inputs.{broken_whys, numbered, records, row_faults, table_row_faults}
use Rattle.tables.specs.Tables.{TableRow}
use Rattle.line_cost_model.specs.Multipliers.{AreMultipliers, IsAfter}
use Rattle.line_concepts.specs.declared.node.Node.{Node}
use Rattle.line_concepts.specs.declared.node.Node.TheVariants as node
use Rattle.branch_certificate.specs.declared.open_bound.OpenBound.{OpenBound}
use Rattle.branch_certificate.specs.declared.read_fault.TreeReadFault.{TreeReadFault}
use Rattle.branch_certificate.specs.declared.read_fault.TreeReadFault.TheVariants as read
use Rattle.branch_certificate.specs.declared.read_so_far.ReadSoFar.{ReadSoFar}
use Rattle.branch_certificate.specs.declared.row_says.RowSays.{RowSays}
use Rattle.branch_certificate.specs.declared.row_says.RowSays.TheVariants as says
use Rattle.branch_certificate.specs.declared.tree_row.TreeRow.{TreeRow}
use Rattle.branch_certificate.specs.TreeFiles.{NamedIds, tree_input, tree_rules, is_multiplier}
use Rattle.branch_certificate.specs.TreeFiles.{is_due, due_after, announced, falls_back}
use Rattle.branch_certificate.specs.TreeFiles.{multiplier_in, multiplier_rows, node_of, nodes_of}
use Rattle.branch_certificate.specs.TreeTexts.{CanBeWritten}
use Rattle.plan_num.specs.declared.number.TheConstants.{NUMBER_LIMIT}

-- ids that rise
abbrev pub AreRising : NamedIds → Type 0
AreRising ids = IsStrictlySortedBy int_cmp ids.lines × IsStrictlySortedBy int_cmp ids.edges

-- the cells of a row are in the ranges of their columns
pub record IsTreeRow (row : TreeRow) : Type 0 where
  pub kind : (pos 0 ≤ℤ row.kind) × (row.kind ≤ℤ pos 4)
  pub id : (pos 0 ≤ℤ row.id) × (row.id ≤ℤ pos 1000000000)
  pub value : (pos 0 ≤ℤ row.value) × (row.value ≤ℤ pos 1000000000)
  pub multiplier : (pos 0 ≤ℤ row.multiplier) × (row.multiplier ≤ℤ pos NUMBER_LIMIT)

-- the first reason for which a row is refused behind others
abbrev pub first_why : NamedIds → List TreeRow → TreeRow → Option RowWhy
first_why ids before row = slice_get (broken_whys (tree_rules ids) before row) 0

-- a row is refused for a reason, whatever stands before it
abbrev pub IsRefused : NamedIds → TreeRow → RowWhy → Type 0
IsRefused ids row why = (before : List TreeRow) → first_why ids before row ≡ Some why

-- a row is refused only if it is out of its place
abbrev pub IsRefusedIf : NamedIds → TreeRow → (List TreeRow → Bool) → Type 0
IsRefusedIf ids row misplaced =
    (before : List TreeRow) → first_why ids before row
    ≡ (if misplaced before then Some why.OrderGap else None)

-- a node names a line, an edge or edges of these ids
abbrev pub IsNamed : NamedIds → Node → Type 0
IsNamed ids (node.Split line at) = line < length ids.lines
IsNamed ids (node.Empty edge side) = edge < length ids.edges
IsNamed ids (node.Bound multipliers) = All (λ multiplier. multiplier.edge < length ids.edges)
    multipliers
IsNamed ids node.Point = ⊤

-- a node that can stand in a tree
abbrev pub IsSoundNode : NamedIds → Node → Type 0
IsSoundNode ids node = IsNamed ids node × CanBeWritten node

-- a row is a node
pub record SaysNode (ids : NamedIds) (row : TreeRow) (node : Node) : Type 0 where
  pub alone : is_multiplier row ≡ false
  pub stands_for : (behind : List TreeRow) → node_of ids row behind ≡ node ∷ []
  pub none_due : announced row ≡ 0
  pub place : IsRefusedIf ids row is_due
  pub sound : IsSoundNode ids node

-- a row begins a bound with so many multipliers
pub record SaysBound (ids : NamedIds) (row : TreeRow) (count : ℕ) : Type 0 where
  pub alone : is_multiplier row ≡ false
  pub stands_for : (behind : List TreeRow)
      → node_of ids row behind ≡ node.Bound (map (multiplier_in ids) (multiplier_rows behind)) ∷ []
  pub due : announced row ≡ count
  pub place : IsRefusedIf ids row is_due

-- a row is a multiplier of so many millionths of the edge of an index
pub record SaysMultiplier (ids : NamedIds) (row : TreeRow) (edge : ℕ) (millionths : ℤ) : Type 0
  where
    pub alone : is_multiplier row ≡ true
    pub stands_for : (behind : List TreeRow) → node_of ids row behind ≡ []
    pub stands : position (int_eq row.id) ids.edges ≡ Some edge
    pub amount : row.multiplier ≡ millionths
    pub some : pos 1 ≤ℤ millionths
    pub few : millionths ≤ℤ pos NUMBER_LIMIT
    pub small : edge < 2 ^ 63
    pub place : IsRefusedIf ids row (λ before. not (is_due before) || falls_back before row)

-- what a row says where no rule refuses it whatever stands before it
abbrev pub Says : NamedIds → TreeRow → RowSays → Type 0
Says ids row (says.Whole node) = SaysNode ids row node
Says ids row (says.Bound count) = SaysBound ids row count
Says ids row (says.Multiplier edge millionths) = SaysMultiplier ids row edge millionths

-- rows begin with one of a multiplier
abbrev pub begins_inside : List TreeRow → Bool
begins_inside rows = list_any is_multiplier (take 1 rows)

-- no bound is open behind rows
pub record IsClosed (ids : NamedIds) (before : List TreeRow) (nodes : List Node) : Type 0 where
  pub whole : (rest : List TreeRow) → begins_inside rest ≡ false
      → nodes_of ids (before ++ rest) ≡ nodes ++ nodes_of ids rest
  pub none_due : due_after before ≡ 0

-- an open bound takes a multiplier of an edge: one is due, and the edge comes after those that are
-- there
abbrev pub takes : OpenBound → ℕ → Bool
takes bound edge = nat_lt 0 bound.due && not (nat_lt edge bound.next)

-- an open bound with one multiplier more
abbrev pub taken_by : OpenBound → ℕ → ℤ → OpenBound
taken_by bound edge millionths = record {
  multipliers = bound.multipliers ++ record { edge = edge; amount = unsigned_abs millionths } ∷ [];
  next = edge + 1;
  due = bound.due - 1;
}

-- what always holds of an open bound
pub record IsSoundBound (ids : NamedIds) (bound : OpenBound) : Type 0 where
  pub after : IsAfter bound.multipliers bound.next
  pub are : AreMultipliers bound.multipliers
  pub named : All (λ multiplier. multiplier.edge < length ids.edges) bound.multipliers

-- a bound is open behind rows
pub record IsOpen (ids : NamedIds) (before : List TreeRow) (nodes : List Node) (bound : OpenBound) :
    Type 0 where
  pub whole : (rest : List TreeRow) → nodes_of ids (before ++ rest)
      ≡ nodes ++ node.Bound (bound.multipliers ++ map (multiplier_in ids) (multiplier_rows rest))
      ∷ nodes_of ids rest
  pub due : due_after before ≡ bound.due
  pub last : (row : TreeRow) (edge : ℕ) → position (int_eq row.id) ids.edges ≡ Some edge
      → falls_back before row ≡ nat_lt edge bound.next
  pub sound : IsSoundBound ids bound

-- a bound is open or not
abbrev pub StandsBehind : NamedIds → List TreeRow → List Node → Option OpenBound → Type 0
StandsBehind ids before nodes None = IsClosed ids before nodes
StandsBehind ids before nodes (Some bound) = IsOpen ids before nodes bound

-- what is known after rows
pub record IsReadSoFar (ids : NamedIds) (before : List TreeRow) (so_far : ReadSoFar) : Type 0 where
  pub sound : All (IsSoundNode ids) so_far.nodes
  pub behind : StandsBehind ids before so_far.nodes so_far.bound

-- a multiplier is due in a bound
abbrev pub is_due_in : Option OpenBound → Bool
is_due_in None = false
is_due_in (Some bound) = nat_lt 0 bound.due

-- a row is taken
abbrev pub takes_row : ReadSoFar → RowSays → Bool
takes_row so_far (says.Multiplier edge millionths) =
    unwrap_or (option_map (λ bound. takes bound edge) so_far.bound) false
takes_row so_far said = not (is_due_in so_far.bound)

-- nodes with a bound behind them
abbrev pub closed : List Node → Option OpenBound → List Node
closed nodes None = nodes
closed nodes (Some bound) = nodes ++ node.Bound bound.multipliers ∷ []

-- what is read with one row more
abbrev pub with_row : ReadSoFar → RowSays → ReadSoFar
with_row so_far (says.Whole node) =
    record { nodes = closed so_far.nodes so_far.bound ++ node ∷ []; bound = None }
with_row so_far (says.Bound count) = record {
  nodes = closed so_far.nodes so_far.bound;
  bound = Some (record { multipliers = []; next = 0; due = count });
}
with_row so_far (says.Multiplier edge millionths) = record {
  nodes = so_far.nodes;
  bound = option_map (λ bound. taken_by bound edge millionths) so_far.bound;
}

-- what a multiplier may say
abbrev pub MayBeTaken : RowSays → Type 0
MayBeTaken (says.Multiplier edge millionths) =
    (edge < 2 ^ 63) × (pos 1 ≤ℤ millionths) × (millionths ≤ℤ pos NUMBER_LIMIT)
MayBeTaken said = ⊤

-- the multipliers of an open bound come before its next edge
abbrev pub IsInOrder : Option OpenBound → Type 0
IsInOrder None = ⊤
IsInOrder (Some bound) = IsAfter bound.multipliers bound.next

-- a fault of reading that is the first of some; want of memory is free
abbrev pub IsFirst : List Refusal → TreeReadFault → Type 0
IsFirst all (read.Row first) = slice_get all 0 ≡ Some (refusal.BadRow file.Tree first.row first.why)
IsFirst all read.NoMemory = ⊤

-- why a tree is not read, where its row is not
abbrev pub tree_fault : ReadFault → TreeReadFault
tree_fault (row.Row first) = read.Row first
tree_fault row.NoMemory = read.NoMemory

-- what is known up to a place of a table: what the rows before it stand for, or the first rule that
-- one of them breaks
abbrev pub IsReadUpTo : NamedIds → List TableRow → ℕ → Option RowFault → ReadSoFar → Type 0
IsReadUpTo ids table i None so_far = record {
  sound : row_faults file.Tree (tree_rules ids) (records (tree_input ids) (take i table))
      (numbered (tree_input ids) (drop i table)) ≡ table_row_faults (tree_input ids) table;
  known : IsReadSoFar ids (records (tree_input ids) (take i table)) so_far;
}
IsReadUpTo ids table i (Some first) so_far =
    slice_get (table_row_faults (tree_input ids) table) 0
    ≡ Some (refusal.BadRow file.Tree first.row first.why)
