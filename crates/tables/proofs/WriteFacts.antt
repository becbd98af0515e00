-- The line of a row, cell by cell.
use Rattle.plan_num.proofs.Common.{◌≡◌, ℕ, ◌+◌, ◌<◌, ◌≤◌, zero, suc, List, [], ◌∷◌, ◌++◌, length}
use Rattle.plan_num.proofs.Common.{map, take, get_or, refl, ap, sym, ◌∙◌, arith, ℤ, append_assoc}
use Rattle.plan_num.proofs.Common.{append-nil, All, Bor, take_more, take_all, length-take-le}
use Rattle.plan_num.proofs.Common.{length-map, get_or-map, lt-ltb, All-get_or, flat_map-append}
use Rattle.tables.specs.declared.column.ColumnKind.{ColumnKind}
use Rattle.tables.specs.Tables.{TableRow, no_row}
use Rattle.tables.specs.Writing.{cell_text, cell_texts, joined, separator, line_text, row_line, InColumn, InColumns}

-- a cell is in the range of its column
pub in_column : (kinds : List ColumnKind) (cells : List ℤ) (i : ℕ) (kind : ColumnKind) (cell : ℤ)
    → InColumns kinds cells → i < length kinds
    → InColumn (get_or kinds i kind) (get_or cells i cell)
in_column [] cells i kind cell h lt = absurd (omega arith)
in_column (k ∷ kinds) [] i kind cell h lt = absurd h
in_column (k ∷ kinds) (c ∷ cells) zero kind cell h lt = h.0
in_column (k ∷ kinds) (c ∷ cells) (suc i) kind cell h lt = in_column kinds cells i kind cell h.1 (omega arith)

-- there are as many cells as columns
pub cells_length : (kinds : List ColumnKind) (cells : List ℤ) → InColumns kinds cells → length cells ≡ length kinds
cells_length [] [] h = refl
cells_length [] (cell ∷ cells) h = absurd h
cells_length (kind ∷ kinds) [] h = absurd h
cells_length (kind ∷ kinds) (cell ∷ cells) h = ap suc (cells_length kinds cells h.1)

-- and as many texts
pub texts_length : (kinds : List ColumnKind) (cells : List ℤ) → InColumns kinds cells
    → length (cell_texts kinds cells) ≡ length kinds
unfolding cell_texts
texts_length [] [] h = refl
texts_length [] (cell ∷ cells) h = absurd h
texts_length (kind ∷ kinds) [] h = absurd h
texts_length (kind ∷ kinds) (cell ∷ cells) h = ap suc (texts_length kinds cells h.1)

-- the text of a column
text_at : (kinds : List ColumnKind) (cells : List ℤ) (i : ℕ) (kind : ColumnKind) (cell : ℤ)
    → InColumns kinds cells → i < length kinds
    → get_or (cell_texts kinds cells) i [] ≡ cell_text (get_or kinds i kind) (get_or cells i cell)
unfolding cell_texts
text_at [] cells i kind cell h lt = absurd (omega arith)
text_at (k ∷ kinds) [] i kind cell h lt = absurd h
text_at (k ∷ kinds) (c ∷ cells) zero kind cell h lt = refl
text_at (k ∷ kinds) (c ∷ cells) (suc i) kind cell h lt = text_at kinds cells i kind cell h.1 (omega arith)

-- one text more
joined_push : (texts : List (List ℕ)) (text : List ℕ) → joined (texts ++ text ∷ []) ≡ joined texts
    ++ separator (length texts) ++ text
unfolding joined
joined_push [] text = append-nil text
joined_push (first ∷ texts) text = grind (arith, lt-ltb, flat_map-append, append-nil, append_assoc)

-- the text of one column more
pub column_more : (kinds : List ColumnKind) (cells : List ℤ) (i : ℕ) (kind : ColumnKind) (cell : ℤ)
    (start old between new : List ℕ) → InColumns kinds cells → i < length kinds
    → old ≡ start ++ joined (take i (cell_texts kinds cells)) → between ≡ old ++ separator i → new
    ≡ between ++ cell_text (get_or kinds i kind) (get_or cells i cell)
    → new ≡ start ++ joined (take (i + 1) (cell_texts kinds cells))
column_more kinds cells i kind cell start old between new h lt e f g =
    let texts = cell_texts kinds cells in
    let size = texts_length kinds cells h in
    let within : i < length texts = omega arith in
    let front = length-take-le i texts (omega arith) in
    let next = ap joined (take_more texts i [] within)
    ∙ joined_push (take i texts) (get_or texts i [])
    ∙ rw (front, text_at kinds cells i kind cell h lt) refl in
    g ∙ rw (f, e) (append_assoc (start ++ joined (take i texts)) (separator i) _
    ∙ append_assoc start (joined (take i texts)) _
    ∙ ap (λ (line : List ℕ). start ++ line)
    (sym (append_assoc (joined (take i texts)) (separator i) _) ∙ sym next))

-- no text yet
pub no_column : (start : List ℕ) → start ≡ start ++ joined []
unfolding joined
no_column start = sym (append-nil start)

-- all texts and the end of the line
pub line_done : (kinds : List ColumnKind) (row : TableRow) (i : ℕ) (start old new : List ℕ)
    → InColumns kinds row.cells → length kinds ≤ i
    → old ≡ start ++ joined (take i (cell_texts kinds row.cells)) → new ≡ old ++ 10 ∷ [] → new
    ≡ start ++ line_text kinds row
line_done kinds row i start old new h past e f = grind (arith, take_all, texts_length, append_assoc)

-- the row at a place has its cells in the ranges of the columns
pub row_in_columns : (kinds : List ColumnKind) (rows : List TableRow) (i : ℕ)
    → All (λ row. InColumns kinds row.cells) rows → i < length rows
    → InColumns kinds (row_line rows i).cells
row_in_columns kinds rows i h lt = All-get_or (λ (row : TableRow). InColumns kinds row.cells) rows i no_row lt h

-- a word by its place
pub word_is : (words : List (Bor (List ℕ))) (table : List (List ℕ)) (place : ℕ)
    (other : Bor (List ℕ)) → map (λ word. word.now) words ≡ table → place < length table → other.now
    ≡ []
    → (get_or words place other).now ≡ get_or table place []
word_is words table place other e h none = grind (arith, length-map, get_or-map, get_or)
