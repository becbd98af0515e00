-- A text of a tree that is read row by row, with no table: faults of cells come before all others.
use Rattle.plan_num.proofs.Common.{◌≡◌, ℕ, ◌+◌, ◌<◌, ◌≤◌, List, [], ◌∷◌, length, map, drop, get_or}
use Rattle.plan_num.proofs.Common.{slice_get, refl, sym, ap, ◌∙◌, arith, Option, Some, None, Err}
use Rattle.plan_num.proofs.Common.{All, length-drop, flat_map, drop_more, All-nil, All-cons}
use Rattle.tables.specs.declared.file_id.FileId.TheVariants as file
use Rattle.tables.specs.declared.read_fault.ReadFault.{ReadFault}
use Rattle.tables.specs.declared.read_fault.RowFault.{RowFault}
use Rattle.tables.specs.declared.refusal.Refusal.{Refusal}
use Rattle.tables.proofs.Common.{tree_columns, cell_faults, or_else, faults, table_row, ReadGives}
use Rattle.tables.proofs.Common.{TableRow, no_row, InColumns, row_in_columns}
use Rattle.tables.specs.declared.read_fault.ReadFault.TheVariants as row_fault
use Rattle.tables.specs.declared.refusal.Refusal.TheVariants as refusal
use Rattle.tables.specs.Reading.{row_faults}
use Rattle.text_fields.specs.Rows.{Row}
use Rattle.branch_certificate.specs.declared.read_fault.TreeReadFault.{TreeReadFault}
use Rattle.branch_certificate.specs.declared.read_so_far.ReadSoFar.{ReadSoFar}
use Rattle.branch_certificate.specs.ReadRows.{IsFirst, IsInOrder, IsReadSoFar, IsReadUpTo}
use Rattle.branch_certificate.specs.ReadRows.{tree_fault}
use Rattle.branch_certificate.specs.TreeFiles.{NamedIds}

-- ---- faults of cells

first_mapped : {X Y : Type 0} (f : X → Y) (all : List X) (first : X)
    → slice_get all 0 ≡ Some first → slice_get (map f all) 0 ≡ Some (f first)
first_mapped f [] first h = cc
first_mapped f (x ∷ all) first h = let same : x ≡ first = cc in ap (λ y. Some (f y)) same

first_or_else : (all others : List Refusal) (first : Refusal) → slice_get all 0 ≡ Some first
    → slice_get (or_else all others) 0 ≡ Some first
first_or_else [] others first h = cc
first_or_else (x ∷ all) others first h = h

-- the first fault of a cell comes before all rules
pub by_cell : (text : List ℕ) (others : List Refusal) (first : RowFault)
    → slice_get (faults tree_columns text) 0 ≡ Some first
    → slice_get (or_else (cell_faults file.Tree tree_columns text) others) 0
    ≡ Some (refusal.BadRow file.Tree first.row first.why)
by_cell text others first h =
    first_or_else _ others _
    (first_mapped (λ fault. refusal.BadRow file.Tree fault.row fault.why) (faults tree_columns text)
    first h)

-- so a row that is not read ends the reading
pub cell_refused : (text : List ℕ) (others : List Refusal) (whole : List TableRow)
    (fault : ReadFault) → ReadGives (faults tree_columns text) whole (Err fault)
    → IsFirst (or_else (cell_faults file.Tree tree_columns text) others) (tree_fault fault)
cell_refused text others whole (row_fault.Row first) h = by_cell text others first h
cell_refused text others whole row_fault.NoMemory h = tt

-- after the last row no cell is at fault
pub no_cells : (text : List ℕ) (left : List Row) → left ≡ []
    → flat_map (row_faults tree_columns) left ≡ faults tree_columns text
    → cell_faults file.Tree tree_columns text ≡ []
no_cells text left none all = grind arith

-- what refuses by cells or else by rules does one of the two
pub one_of_both : {A : Type 0} (cells rules : List Refusal) (fault : TreeReadFault)
    → IsFirst (or_else cells rules) fault → (IsFirst cells fault → A)
    → (cells ≡ [] → IsFirst rules fault → A) → A
one_of_both [] rules fault h by_cells by_rules = by_rules refl h
one_of_both (x ∷ cells) rules fault h by_cells by_rules = by_cells h

-- ---- rows

-- before the first row nothing is read
pub nothing_read : (ids : NamedIds) (so_far : ReadSoFar) → so_far ≡ record { nodes = []; bound = None }
    → IsReadSoFar ids [] so_far
nothing_read ids so_far is = grind arith

pub in_order : (ids : NamedIds) (all : List TableRow) (i : ℕ) (fault : Option RowFault)
    (so_far : ReadSoFar) → IsReadUpTo ids all i fault so_far → fault ≡ None
    → IsInOrder so_far.bound
in_order ids all i fault so_far up_to none = grind arith

-- the row that is read is in the ranges of its columns
pub one_inside : (row : Row) (table : List TableRow) → row_faults tree_columns row ≡ []
    → table ≡ table_row tree_columns row ∷ [] → All (λ row. InColumns tree_columns row.cells) table
one_inside row table none is = grind (arith, All-cons, row_in_columns, All-nil)

abbrev behind_first : List TableRow → List TableRow
behind_first [] = []
behind_first (row ∷ rows) = rows

module _ (all : List TableRow) (i : ℕ) (row : Row) (old rest : List Row)
    (left : drop i all ≡ map (table_row tree_columns) old) (next : old ≡ row ∷ rest) where
  here : drop i all ≡ table_row tree_columns row ∷ map (table_row tree_columns) rest
  here = left ∙ ap (map (table_row tree_columns)) next

  -- it is the next of the table that is not there
  pub row_within : i < length all
  row_within = omega (arith, length-drop i all, ap length here)

  pub row_own : get_or all i no_row ≡ table_row tree_columns row
  row_own = grind (arith, get_or, drop_more, row_within, here)

  pub rows_behind : drop (i + 1) all ≡ map (table_row tree_columns) rest
  rows_behind = ap behind_first (sym (drop_more all i no_row row_within) ∙ here)

-- after the last row none is left
pub rows_past : (all : List TableRow) (i : ℕ) (old : List Row)
    → drop i all ≡ map (table_row tree_columns) old → old ≡ [] → length all ≤ i
rows_past all i old left none =
    omega (
      arith,
      length-drop i all,
      ap length (left ∙ ap (map (table_row tree_columns)) none),
    )
