-- A written table is read back.
use Rattle.plan_num.proofs.Common.{◌≡◌, ◌≢◌, ℕ, ◌+◌, ◌-◌, ◌<◌, List, [], ◌∷◌, ◌++◌, length, map}
use Rattle.plan_num.proofs.Common.{take, get_or, refl, ap, sym, ◌∙◌, arith, Bool, true, false, cond}
use Rattle.plan_num.proofs.Common.{eqb, All, append_assoc, ne_eqb, flat_map, list_all}
use Rattle.plan_num.proofs.Common.{strip_carriage_return, false≢true, All-head, All-tail}
use Rattle.tables.specs.declared.column.ColumnKind.{ColumnKind}
use Rattle.text_fields.specs.Rows.{Row, row_of, parts_of, rows, has_mark}
use Rattle.tables.specs.Tables.{TableRow}
use Rattle.tables.specs.Reading.{row_faults, table_row}
use Rattle.tables.specs.Writing.{cell_texts, joined, line_text, table_text, CanWrite, InColumns, IsHeader, ReadsBack}
use Rattle.tables.proofs.RowFacts.{whys_are}
use Rattle.text_fields.proofs.RowsLeft.{rows_left, all_left, numbered_step}
use Rattle.tables.proofs.FirstFaults.{table_is}
use Rattle.tables.proofs.FirstFaults.{no_mark}
use Rattle.text_fields.proofs.ToldFacts.{sign_kept}
use Rattle.tables.proofs.WriteFacts.{texts_length}
use Rattle.tables.proofs.PlainBytes.{AreCells, is_quiet, cells_quiet, quiet_stripped, line_some, cells_row, line_cut, quiet_line}
use Rattle.tables.proofs.CellTexts.{texts_are_cells, texts_back}

-- what holds of the line of a row
record IsLine (texts : List (List ℕ)) : Type 0 where
  quiet : list_all is_quiet (joined texts) ≡ true
  some : 0 < length (joined texts)
  row : (number : ℕ) → row_of number (joined texts) ≡ record { number = number; fields = texts } ∷ []

is_line : (texts : List (List ℕ)) → AreCells texts → 0 < length texts → IsLine texts
is_line [] h some = absurd (omega arith)
is_line (first ∷ texts) h some = grind (arith, cells_quiet, line_some, cells_row)

-- the rows of a written table, after so many lines
numbered : ℕ → List ColumnKind → List TableRow → List Row
numbered number kinds [] = []
numbered number kinds (row ∷ rows) = record {
  number = number + 1;
  fields = cell_texts kinds
      row.cells;
} ∷ numbered (number + 1) kinds rows

module _ (kinds : List ColumnKind) (some : 0 < length kinds) (can : All CanWrite kinds) where
  line_of : (row : TableRow) → InColumns kinds row.cells → IsLine (cell_texts kinds row.cells)
  line_of row inside = is_line (cell_texts kinds row.cells)
      (texts_are_cells kinds row.cells can inside)
      (omega (arith, texts_length kinds row.cells inside))

  -- the lines of the rows have these rows
  lines_left : (number : ℕ) (rows : List TableRow) → All (λ row. InColumns kinds row.cells) rows
      → rows_left number (parts_of (flat_map (line_text kinds) rows)) ≡ numbered number kinds rows
  unfolding numbered rows_left
  lines_left number [] h = refl
  lines_left number (row ∷ rows) h =
      let line = line_of row (All-head (λ (row : TableRow). InColumns kinds row.cells) row rows h) in
      let text = joined (cell_texts kinds row.cells) in
      let rest = flat_map (line_text kinds) rows in
      let cut = ap parts_of (append_assoc text (10 ∷ []) rest) ∙ line_cut text rest (quiet_line text line.quiet) in
      let filled = ne_eqb (length text) 0 (λ e. omega (arith, line.some)) in
      numbered_step number text text _ _ cut (sym (quiet_stripped text line.quiet line.some)) filled
      ∙ rw (
        line.row (number + 1),
        lines_left (number + 1) rows
            (All-tail (λ (row : TableRow). InColumns kinds row.cells) row rows h),
      ) refl

  -- and no fault
  no_fault : (number : ℕ) (rows : List TableRow) → All (λ row. InColumns kinds row.cells) rows
      → flat_map (row_faults kinds) (numbered number kinds rows) ≡ []
  unfolding numbered
  no_fault number [] h = refl
  no_fault number (row ∷ rows) h = grind (
    arith,
    All-head,
    whys_are,
    texts_length,
    texts_back,
    All-tail,
    no_fault (number + 1) rows (All-tail (λ (row : TableRow). InColumns kinds
        row.cells) row rows h),
  )

  -- and the same cells
  same_cells : (number : ℕ) (rows : List TableRow) → All (λ row. InColumns kinds row.cells) rows
      → map (λ row. row.cells) (map (table_row kinds) (numbered number kinds rows))
      ≡ map (λ row. row.cells) rows
  unfolding numbered
  same_cells number [] h = refl
  same_cells number (row ∷ rows) h =
      let inside = All-head (λ (row : TableRow). InColumns kinds row.cells) row rows h in
      rw (
        (texts_back 1 kinds row.cells can inside).1,
        same_cells (number + 1) rows
            (All-tail (λ (row : TableRow). InColumns kinds row.cells) row rows h),
      ) refl

-- a header has no row
header_row : (rest : List ℕ) → (row_of 1 (strip_carriage_return (35 ∷ rest)) ≡ [])
    × (eqb (length (strip_carriage_return (35 ∷ rest))) 0 ≡ false)
header_row rest = grind (arith, sign_kept, ne_eqb)

behind_header : (header rest : List ℕ) → IsHeader header
    → (rows_left 0 (parts_of (header ++ 10 ∷ rest)) ≡ rows_left 1 (parts_of rest))
    × (has_mark (header ++ 10 ∷ rest) ≡ false)
behind_header [] rest h = absurd (let e = h.0 in cc)
behind_header (byte ∷ header) rest h =
    let first : byte ≡ 35 = let e = h.0 in cc in
    let row = header_row header in
    let plain : All (λ b. b ≢ 10) (35 ∷ header) = rw first at h.1 in
    rw first (
      numbered_step 0 (35 ∷ header) (strip_carriage_return (35 ∷ header)) _ _
          (line_cut (35 ∷ header) rest plain) refl row.1 ∙ rw row.0 refl,
      refl,
    )

-- a written table is read back to the same cells, without a fault
pub written_back : (header : List ℕ) (kinds : List ColumnKind) (table : List TableRow)
    → 0 < length kinds → All CanWrite kinds → All (λ row. InColumns kinds row.cells) table
    → IsHeader header
    → ReadsBack kinds table (table_text header kinds table)
unfolding table_text
written_back header kinds table some can inside h =
    let text = header ++ 10 ∷ flat_map (line_text kinds) table in
    let behind = behind_header header (flat_map (line_text kinds) table) h in
    let told : rows text ≡ numbered 1 kinds table = sym (all_left text) ∙ behind.0
    ∙ lines_left kinds some can 1 table inside in (
      sym (no_mark kinds text behind.1) ∙ ap (flat_map (row_faults kinds)) told
          ∙ no_fault kinds some can 1 table inside,
      ap (λ (all : List TableRow). map (λ row. row.cells) all)
          (sym (table_is kinds text) ∙ ap (map (table_row kinds)) told)
          ∙ same_cells kinds some can 1 table inside,
    )
