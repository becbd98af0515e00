-- The first fault of a text, row by row.
use Rattle.plan_num.proofs.Common.{◌≡◌, ℕ, List, [], ◌∷◌, ◌++◌, map, refl, true, false, Some, Err}
use Rattle.plan_num.proofs.Common.{flat_map, slice_get}
use Rattle.tables.specs.declared.column.ColumnKind.{ColumnKind}
use Rattle.tables.specs.declared.row_why.RowWhy.TheVariants as why
use Rattle.tables.specs.declared.read_fault.RowFault.{RowFault}
use Rattle.tables.specs.declared.read_fault.ReadFault.{ReadFault}
use Rattle.tables.specs.declared.read_fault.ReadFault.TheVariants as fault
use Rattle.text_fields.specs.Rows.{Row, has_mark, rows}
use Rattle.tables.specs.Tables.{TableRow}
use Rattle.tables.specs.Reading.{row_faults, table_row, faults, table_of, ReadGives, RowGives}

-- the first of some faults is the first of all
pub first_stays : {X : Type 0} (some more : List X) (first : X) → slice_get some 0 ≡ Some first
    → slice_get (some ++ more) 0 ≡ Some first
first_stays [] more first e = cc
first_stays (x ∷ some) more first e = e

-- a row that was refused has the first fault of all
pub row_ends : (kinds : List ColumnKind) (row : Row) (rest : List Row) (all : List RowFault)
    (old new whole : List TableRow) (reason : ReadFault)
    → flat_map (row_faults kinds) (row ∷ rest) ≡ all → RowGives kinds row old new (Err reason)
    → ReadGives all whole (Err reason)
row_ends kinds row rest all old new whole (fault.Row first) left gives =
    rw (← left) (first_stays (row_faults kinds row) (flat_map (row_faults kinds) rest) first gives)
row_ends kinds row rest all old new whole fault.NoMemory left gives = tt

-- without a mark the faults and the table are those of the rows
pub no_mark : (kinds : List ColumnKind) (text : List ℕ) → has_mark text ≡ false
    → flat_map (row_faults kinds) (rows text) ≡ faults kinds text
unfolding faults
no_mark kinds text e = rw e refl

pub mark_first : (kinds : List ColumnKind) (text : List ℕ) → has_mark text ≡ true
    → slice_get (faults kinds text) 0 ≡ Some record { row = 1; why = why.ByteOrderMark }
unfolding faults
mark_first kinds text e = rw e refl

pub table_is : (kinds : List ColumnKind) (text : List ℕ)
    → map (table_row kinds) (rows text) ≡ table_of kinds text
unfolding table_of
table_is kinds text = refl
