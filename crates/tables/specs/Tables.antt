-- Tables, as lists of rows.
use Rattle.std.specs.Prelude.{ℕ, ℤ, pos, ◌≡◌, List, [], ◌∷◌, take, drop, length, get_or, All}

-- a row of a table: its number, and its cells from the left
pub record TableRow : Type 0 where
  pub number : ℕ
  pub cells : List ℤ

-- the rows of so many cells each, from the numbers of the rows and from their cells one after the other
unfoldable pub rows_of : ℕ → List ℕ → List ℤ → List TableRow
rows_of width [] cells = []
rows_of width (number ∷ numbers) cells = record { number = number; cells = take width cells } ∷
    rows_of width numbers (drop width cells)

-- a row that is not there
abbrev pub no_row : TableRow
no_row = record { number = 0; cells = [] }

-- the number of the row at a place
abbrev pub row_number : List TableRow → ℕ → ℕ
row_number rows row = (get_or rows row no_row).number

-- the cell of the row at a place, in a column
abbrev pub cell_at : List TableRow → ℕ → ℕ → ℤ
cell_at rows row column = get_or (get_or rows row no_row).cells column (pos 0)

-- each row has so many cells
abbrev pub Wide : ℕ → List TableRow → Type 0
Wide width rows = All (λ row. length row.cells ≡ width) rows
