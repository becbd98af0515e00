-- What a row's fields make of it.
use Rattle.plan_num.proofs.Common.{◌≡◌, ℕ, ◌+◌, ◌*◌, suc, List, [], ◌∷◌, ◌++◌, length, map, refl}
use Rattle.plan_num.proofs.Common.{ap, ◌∙◌, eq-eqb, ne_eqb, Some, Ok, Err, Result, ℤ, length-append}
use Rattle.plan_num.proofs.Common.{arith, slice_get}
use Rattle.tables.specs.declared.column.ColumnKind.{ColumnKind}
use Rattle.tables.specs.declared.row_why.RowWhy.{RowWhy}
use Rattle.tables.specs.declared.row_why.RowWhy.TheVariants as why
use Rattle.tables.specs.declared.read_fault.ReadFault.{ReadFault}
use Rattle.tables.specs.declared.read_fault.ReadFault.TheVariants as fault
use Rattle.text_fields.specs.Rows.{Row}
use Rattle.tables.specs.Tables.{TableRow, rows_of}
use Rattle.tables.specs.InnerReading.{CellsGive}
use Rattle.tables.specs.Reading.{RowGives, cells_from, errors, values, row_whys, row_faults}
use Rattle.tables.specs.Reading.{table_row}
use Rattle.tables.proofs.TableRows.{rows_push}

-- a row with another number of fields is refused for that
pub wrong_count : (kinds : List ColumnKind) (row : Row) → (length row.fields ≡ length kinds → ⊥)
    → slice_get (row_faults kinds row) 0 ≡ Some
    record { row = row.number; why = why.FieldCount (length row.fields) }
unfolding row_whys
wrong_count kinds row ne = rw (ne_eqb (length row.fields) (length kinds) ne) refl

-- any other for what its columns refuse
pub whys_are : (kinds : List ColumnKind) (row : Row) → length row.fields ≡ length kinds
    → row_whys kinds row ≡ errors (cells_from 1 kinds row.fields)
unfolding row_whys
whys_are kinds row e = rw (eq-eqb (length row.fields) (length kinds) e) refl

faults_are : (kinds : List ColumnKind) (row : Row) → length row.fields ≡ length kinds
    → row_faults kinds row ≡ map (λ reason. record { row = row.number; why = reason })
    (errors (cells_from 1 kinds row.fields))
faults_are kinds row e = grind (arith, whys_are)

-- a fault of the cells is one of the row
pub row_refused : (kinds : List ColumnKind) (row : Row) (reason : ReadFault) (old new : List ℤ)
    (before after : List TableRow) → length row.fields ≡ length kinds
    → CellsGive row.number (cells_from 1 kinds row.fields) old new (Err reason)
    → RowGives kinds row before after (Err reason)
row_refused kinds row (fault.Row first) old new before after e gives =
    rw (faults_are kinds row e) gives
row_refused kinds row fault.NoMemory old new before after e gives = tt

cells_length : (column : ℕ) (kinds : List ColumnKind) (fields : List (List ℕ))
    → length fields ≡ length kinds → length (cells_from column kinds fields) ≡ length kinds
unfolding cells_from
cells_length column [] [] e = refl
cells_length column [] (field ∷ fields) e = refl
cells_length column (kind ∷ kinds) [] e = e
cells_length column (kind ∷ kinds) (field ∷ fields) e =
    ap suc (cells_length (column + 1) kinds fields (omega (arith, e)))

values_length : (made : List (Result ℤ RowWhy)) → errors made ≡ []
    → length (values made) ≡ length made
unfolding errors values
values_length [] e = refl
values_length (Ok cell ∷ made) e = ap suc (values_length made e)
values_length (Err reason ∷ made) e = absurd (cc)

-- a row without an error has a cell in each column
pub row_wide : (kinds : List ColumnKind) (fields : List (List ℕ)) → length fields ≡ length kinds
    → errors (cells_from 1 kinds fields) ≡ [] → length (values (cells_from 1 kinds fields))
    ≡ length kinds
row_wide kinds fields e none =
    values_length (cells_from 1 kinds fields) none ∙ cells_length 1 kinds fields e

-- with its cells behind all others, and its number behind theirs, the row stands at the end
pub row_read : (kinds : List ColumnKind) (row : Row) (width : ℕ) (numbers : List ℕ)
    (old new : List ℤ) (rows : List TableRow) → length row.fields ≡ length kinds
    → length kinds ≡ width
    → length old ≡ length numbers * width → rows_of width numbers old ≡ rows
    → (errors (cells_from 1 kinds row.fields) ≡ [])
    × (new ≡ old ++ values (cells_from 1 kinds row.fields))
    → (row_faults kinds row ≡ []) × (rows_of width (numbers ++ row.number ∷ []) new ≡ rows
    ++ table_row kinds row ∷ [])
row_read kinds row width numbers old new rows e wide whole view gives =
    grind (arith, faults_are, rows_push, row_wide)

-- with a row more there are still as many cells as rows times columns
pub row_fits : (kinds : List ColumnKind) (fields : List (List ℕ)) (width count size : ℕ)
    (numbers numbers' : List ℕ) (old new : List ℤ) (number : ℕ) → length fields ≡ length kinds
    → length kinds ≡ width
    → length old ≡ length numbers * width → numbers' ≡ numbers ++ number ∷ []
    → (errors (cells_from 1 kinds fields) ≡ [])
    × (new ≡ old ++ values (cells_from 1 kinds fields))
    → count ≡ length numbers' → size ≡ length new → size ≡ count * width
row_fits kinds fields width count size numbers numbers' old new number e wide whole pushed gives
    counted sized =
    let row = row_wide kinds fields e gives.0 ∙ wide in
    let cells = sized ∙ ap length gives.1 ∙ length-append old
    (values (cells_from 1 kinds fields)) in
    let rows = counted ∙ ap length pushed ∙ length-append numbers (number ∷ []) in
    rw rows (omega (arith, cells, row, whole))
