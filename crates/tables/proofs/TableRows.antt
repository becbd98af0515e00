-- The rows of a table, against its numbers and its cells one after the other.
use Rattle.plan_num.proofs.Common.{◌≡◌, ℕ, ◌+◌, ◌*◌, ◌<◌, ◌≤◌, zero, suc, List, [], ◌∷◌, ◌++◌}
use Rattle.plan_num.proofs.Common.{length, take, drop, get_or, refl, ap, sym, ◌∙◌, arith, ℤ, pos}
use Rattle.plan_num.proofs.Common.{length-drop, get_or-take, get_or-drop, take_all, nil_from_length}
use Rattle.plan_num.proofs.Common.{take-append-le, drop-drop, length-take-le, All-nil, All-cons}
use Rattle.std.proofs.lemmas.List.{drop-append-le}
use Rattle.std.proofs.lemmas.Nat.{mul-add-lt}
use Rattle.std.proofs.Math.Nat.{mul_comm, mul-le-mul_right}
use Rattle.tables.specs.Tables.{TableRow, rows_of, no_row, row_number, cell_at, Wide}

-- a table without numbers has no rows
pub rows_none : (width : ℕ) (cells : List ℤ) → rows_of width [] cells ≡ []
unfolding rows_of
rows_none width cells = refl

-- there are as many rows as numbers
pub length-rows : (width : ℕ) (numbers : List ℕ) (cells : List ℤ)
    → length (rows_of width numbers cells) ≡ length numbers
unfolding rows_of
length-rows width [] cells = refl
length-rows width (number ∷ numbers) cells = ap suc (length-rows width numbers (drop width cells))

-- one row less has that many cells less
less_cells : (width n : ℕ) (cells : List ℤ) → length cells ≡ suc n * width → (width ≤ length cells)
    × (length (drop width cells) ≡ n * width)
less_cells width n cells h = (grind arith, simp length-drop (grind arith))

-- a number and its cells at the ends make a row at the end
pub rows_push : (width : ℕ) (numbers : List ℕ) (cells : List ℤ) (number : ℕ) (row : List ℤ)
    → length cells ≡ length numbers * width → length row ≡ width
    → rows_of width (numbers ++ number ∷ []) (cells ++ row) ≡ rows_of width numbers cells
    ++ record { number = number; cells = row } ∷ []
unfolding rows_of
rows_push width [] cells number row h wide = grind (arith, nil_from_length, take_all)
rows_push width (first ∷ numbers) cells number row h wide =
    let less = less_cells width (length numbers) cells h in grind (
      arith,
      take-append-le,
      drop-append-le,
      rows_push width numbers (drop width cells) number row less.1 wide,
    )

-- the row at a place has the number there and the cells from there on
pub row_at : (width : ℕ) (numbers : List ℕ) (cells : List ℤ) (i : ℕ) → i < length numbers
    → get_or (rows_of width numbers cells) i no_row
    ≡ record { number = get_or numbers i 0; cells = take width (drop (i * width) cells) }
unfolding rows_of
row_at width [] cells i h = absurd (omega arith)
row_at width (number ∷ numbers) cells zero h = grind arith
row_at width (number ∷ numbers) cells (suc i) h =
    let inner : i < length numbers = omega arith in grind (
      arith,
      drop-drop,
      row_at width numbers
          (drop width cells) i inner,
    )

-- a place among the rows is a place among the numbers
pub row_within : (width : ℕ) (numbers : List ℕ) (cells : List ℤ) (rows : List TableRow) (i : ℕ)
    → rows_of width numbers cells ≡ rows → i < length rows → i < length numbers
row_within width numbers cells rows i e h = omega (arith, length-rows width numbers cells, ap length e)

-- a place in a row is a place among all cells
pub cell_within : (width : ℕ) (numbers : List ℕ) (cells : List ℤ) (rows : List TableRow)
    (i j count size : ℕ) → size ≡ count * width → count ≡ length numbers
    → rows_of width numbers cells ≡ rows → i < length rows → j < width → i * width + j < size
cell_within width numbers cells rows i j count size whole all e h k =
    let told = whole ∙ ap (λ n. n * width) all ∙ mul_comm (length numbers) width in
    omega (arith, told, mul-add-lt i width j (length numbers) (row_within width numbers cells rows i e h) k)

-- the cells of a row end among all cells
pub row_ends : (width : ℕ) (numbers : List ℕ) (cells : List ℤ) (rows : List TableRow)
    (i count size : ℕ) → size ≡ count * width → count ≡ length numbers
    → rows_of width numbers cells ≡ rows → i < length rows → i * width + width ≤ size
row_ends width numbers cells rows i count size whole all e h =
    let room : i + 1 ≤ count = omega (arith, all, row_within width numbers cells rows i e h) in
    grind (arith, mul-le-mul_right)

-- and they are its own
pub row_cells : (width : ℕ) (numbers : List ℕ) (cells : List ℤ) (rows : List TableRow) (i : ℕ)
    → rows_of width numbers cells ≡ rows → i < length rows
    → take width (drop (i * width) cells) ≡ (get_or rows i no_row).cells
row_cells width numbers cells rows i e h = grind (arith, row_at, row_within, get_or)

-- the cell that is read there is that of the row
pub cell_is : (width : ℕ) (numbers : List ℕ) (cells : List ℤ) (rows : List TableRow) (i j : ℕ)
    → rows_of width numbers cells ≡ rows → i < length rows → j < width
    → get_or cells (i * width + j) (pos 0) ≡ cell_at rows i j
cell_is width numbers cells rows i j e h k =
    sym (get_or-drop (i * width) cells j (pos 0)) ∙ sym (get_or-take width _ j (pos 0) k)
    ∙ sym (ap (λ (row : TableRow). get_or row.cells j (pos 0))
    (row_at width numbers cells i (row_within width numbers cells rows i e h)))
    ∙ ap (λ (all : List TableRow). cell_at all i j) e

-- the number that is read there is that of the row
pub number_is : (width : ℕ) (numbers : List ℕ) (cells : List ℤ) (rows : List TableRow) (i : ℕ)
    → rows_of width numbers cells ≡ rows → i < length rows
    → get_or numbers i 0 ≡ row_number rows i
number_is width numbers cells rows i e h =
    sym (ap (λ (row : TableRow). row.number)
    (row_at width numbers cells i (row_within width numbers cells rows i e h)))
    ∙ ap (λ (all : List TableRow). row_number all i) e

-- each row has as many cells as the table is wide
pub rows_wide : (width : ℕ) (numbers : List ℕ) (cells : List ℤ) → length cells
    ≡ length numbers * width → Wide width (rows_of width numbers cells)
unfolding rows_of
rows_wide width [] cells h = All-nil (λ (row : TableRow). length row.cells ≡ width)
rows_wide width (number ∷ numbers) cells h =
    let less = less_cells width (length numbers) cells h in grind (
      arith,
      All-cons,
      length-take-le,
      rows_wide width numbers (drop width cells) less.1,
    )
