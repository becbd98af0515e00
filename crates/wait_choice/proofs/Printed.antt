-- Rows that are printed are read back.
use Rattle.plan_num.proofs.Common.{◌≡◌, ◌∙◌, ℕ, suc, List, [], ◌∷◌, map, All, Result, Ok, Err, IfOk}
use Rattle.plan_num.proofs.Common.{refl, ap, sym, arith, ints, All-map, map-map}
use Rattle.tables.proofs.Common.{table_of, TableRow, CanWrite, InColumns, ReadsBack, ReadsAs}
use Rattle.tables.proofs.Common.{records_by, rows_by, columns_written}
use Rattle.wait_choice.specs.declared.row.WaitRow.{WaitRow}
use Rattle.wait_choice.specs.declared.row.WaitRow.TheVariants as row
use Rattle.wait_choice.specs.PrintedRows.{RowFits}
use Rattle.wait_choice.specs.WaitTexts.{wait_cells, wait_row, waits_columns}

cells_fit : (at : WaitRow) → RowFits at → InColumns waits_columns (wait_cells at)
cells_fit (row.Cost cost) fits = (
  (0, omega arith, refl),
  ((omega (arith, ints), omega (arith, ints)), ((omega (arith, ints), omega (arith, ints, fits)), tt)),
)
cells_fit (row.Keep id) fits = (
  (1, omega arith, refl),
  ((omega (arith, ints), omega (arith, ints, fits)), ((omega (arith, ints), omega (arith, ints)), tt)),
)
cells_fit (row.Drop id) fits = (
  (2, omega arith, refl),
  ((omega (arith, ints), omega (arith, ints, fits)), ((omega (arith, ints), omega (arith, ints)), tt)),
)
cells_fit (row.Split id) fits = (
  (3, omega arith, refl),
  ((omega (arith, ints), omega (arith, ints, fits)), ((omega (arith, ints), omega (arith, ints)), tt)),
)
cells_fit row.Leaf fits = (
  (4, omega arith, refl),
  ((omega (arith, ints), omega (arith, ints)), ((omega (arith, ints), omega (arith, ints)), tt)),
)
cells_fit row.Stray fits = absurd fits

same_row : (at : WaitRow) → RowFits at → wait_row (wait_cells at) ≡ at
same_row (row.Cost cost) fits = refl
same_row (row.Keep id) fits = refl
same_row (row.Drop id) fits = refl
same_row (row.Split id) fits = refl
same_row row.Leaf fits = refl
same_row row.Stray fits = absurd fits

pub table_fits : (rows : List WaitRow) → All RowFits rows
    → All (λ (row : TableRow). InColumns waits_columns row.cells) (rows_by wait_cells rows)
table_fits rows fit =
    All-map (λ (row : TableRow). InColumns waits_columns row.cells)
    (λ row. record { number = 0; cells = wait_cells row }) rows
    (λ k d inside. cells_fit _ (fit k d inside))

same_rows : (rows : List WaitRow) → All RowFits rows → records_by wait_row (rows_by wait_cells rows) ≡ rows
same_rows [] fit = refl
same_rows (at ∷ rows) fit =
    let one = same_row at (fit 0 at (omega arith)) in
    let rest = same_rows rows (λ k d inside. fit (suc k) d (omega (arith, inside))) in
    λ i. one i ∷ rest i

pub columns_can : All CanWrite waits_columns
columns_can = columns_written waits_columns refl

pub reads_again : {E : Type 0} (rows : List WaitRow) (result : Result (List ℕ) E) → All RowFits rows
    → IfOk result (ReadsBack waits_columns (rows_by wait_cells rows))
    → IfOk result (ReadsAs waits_columns wait_row rows)
reads_again rows (Ok text) fit back = (
  back.0,
  sym (map-map wait_row (λ (row : TableRow). row.cells) (table_of waits_columns text))
      ∙ ap (map wait_row) back.1
      ∙ map-map wait_row (λ (row : TableRow). row.cells) (rows_by wait_cells rows)
      ∙ same_rows rows fit,
)
reads_again rows (Err error) fit back = tt
