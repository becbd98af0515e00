-- Records that are written are read back.
use Rattle.plan_num.proofs.Common.{◌≡◌, ℕ, ℤ, ◌<◌, List, [], ◌∷◌, length, map, refl, ap, subst, sym}
use Rattle.plan_num.proofs.Common.{◌∙◌, Result, Ok, Err, IfOk, All, All-map, map-map}
use Rattle.tables.specs.declared.column.ColumnKind.{ColumnKind}
use Rattle.tables.proofs.Common.{table_of, TableRow, CanWrite, InColumns, IsHeader, ReadsBack}
use Rattle.tables.proofs.Common.{ReadsAs, file_text, records_by, rows_by, written_back}

-- the rows for records stand for them
pub records_back : {X : Type 0} (of : List ℤ → X) (cells_of : X → List ℤ)
    → ((row : X) → of (cells_of row) ≡ row) → (rows : List X)
    → records_by of (rows_by cells_of rows) ≡ rows
records_back of cells_of back [] = refl
records_back of cells_of back (row ∷ rows) =
    rw (back row, records_back of cells_of back rows) refl

module _ {X : Type 0} (kinds : List ColumnKind) (of : List ℤ → X) (cells_of : X
    → List ℤ) (rows : List X) where
  -- the cells of the rows for records are in their columns
  pub rows_inside : All (λ row. InColumns kinds (cells_of row)) rows → All
      (λ row. InColumns kinds row.cells) (rows_by cells_of rows)
  rows_inside inside = All-map (λ (row : TableRow). InColumns kinds row.cells)
      (λ row. record { number = 0; cells = cells_of row }) rows inside

  -- the text of a file of the records has the cells of these rows
  pub file_back : (header : List ℕ) → 0 < length kinds → All CanWrite kinds → IsHeader header
      → All (λ row. InColumns kinds (cells_of row)) rows
      → ReadsBack kinds (rows_by cells_of rows) (file_text header kinds cells_of rows)
  file_back header some can plain inside =
      written_back header kinds (rows_by cells_of rows) some can (rows_inside inside) plain

  -- a text with these cells is read as the records
  pub text_as : ((row : X) → of (cells_of row) ≡ row) → (text : List ℕ)
      → ReadsBack kinds (rows_by cells_of rows) text → ReadsAs kinds of rows text
  text_as back text h = (
    h.0,
    sym (map-map of (λ (row : TableRow). row.cells) (table_of kinds text)) ∙ ap (map of) h.1
        ∙ map-map of (λ (row : TableRow). row.cells) (rows_by cells_of rows)
        ∙ records_back of cells_of back rows,
  )

  -- so is one of a table that has these rows
  pub reads_as : {E : Type 0} → ((row : X) → of (cells_of row) ≡ row) → (table : List TableRow)
      → table ≡ rows_by cells_of rows → (written : Result (List ℕ) E)
      → IfOk written (ReadsBack kinds table) → IfOk written (ReadsAs kinds of rows)
  reads_as back table is (Err error) h = tt
  reads_as back table is (Ok text) h =
      text_as back text (subst (λ some. ReadsBack kinds some text) is h)
