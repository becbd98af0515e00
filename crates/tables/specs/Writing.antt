-- The text of a table.
use Rattle.std.specs.Prelude.{ℕ, ℤ, nat_lt, if◌then◌else◌, pos, neg_ℤ, ◌≤ℤ◌, ◌≡◌, ◌≢◌, ◌<◌, List, [], ◌∷◌, ◌++◌, length, map, codes, slice_index_or, slice_get, unsigned_abs, Some, All, ⊤}
use Rattle.std.specs.List.{flat_map}
use Rattle.std.specs.Fmt.{signed_decimal}
use Rattle.plan_num.specs.Print.{fixed_text}
use Rattle.tables.specs.declared.column.ColumnKind.{ColumnKind}
use Rattle.tables.specs.declared.column.ColumnKind.TheVariants as kind
use Rattle.tables.specs.Names.{table_words}
use Rattle.tables.specs.Tables.{TableRow, no_row}
use Rattle.tables.specs.Reading.{faults, table_of}
use Rattle.plan_num.specs.declared.number.TheConstants.{NUMBER_LIMIT}

-- the text of a cell in a column
unfoldable pub cell_text : ColumnKind → ℤ → List ℕ
cell_text (kind.Whole min max) cell = signed_decimal cell
cell_text (kind.Fixed min max) cell = fixed_text cell
cell_text (kind.Word words) cell = slice_index_or (table_words words) (unsigned_abs cell) []
cell_text kind.Skip cell = []

-- the texts of cells, column by column
unfoldable pub cell_texts : List ColumnKind → List ℤ → List (List ℕ)
cell_texts (kind ∷ kinds) (cell ∷ cells) = cell_text kind cell ∷ cell_texts kinds cells
cell_texts _ _ = []

-- texts with a semicolon and a space between them
unfoldable pub joined : List (List ℕ) → List ℕ
joined [] = []
joined (text ∷ texts) = text ++ flat_map (λ more. codes "; " ++ more) texts

-- what stands before the text of a column
abbrev pub separator : ℕ → List ℕ
separator column = if nat_lt 0 column then codes "; " else []

-- the line of a row
abbrev pub line_text : List ColumnKind → TableRow → List ℕ
line_text kinds row = joined (cell_texts kinds row.cells) ++ 10 ∷ []

-- the row at a place
abbrev pub row_line : List TableRow → ℕ → TableRow
row_line rows row = slice_index_or rows row no_row

-- a header and then the lines of the rows
unfoldable pub table_text : List ℕ → List ColumnKind → List TableRow → List ℕ
table_text header kinds rows = header ++ 10 ∷ flat_map (line_text kinds) rows

-- a range of numbers that can be written and read back
abbrev pub IsSmall : ℤ → ℤ → Type 0
IsSmall min max = (neg_ℤ (pos NUMBER_LIMIT) ≤ℤ min) × (max ≤ℤ pos NUMBER_LIMIT)

-- a column that can be written
abbrev pub CanWrite : ColumnKind → Type 0
CanWrite (kind.Whole min max) = IsSmall min max
CanWrite (kind.Fixed min max) = IsSmall min max
CanWrite (kind.Word words) = ⊤
CanWrite kind.Skip = ⊥

-- a cell in the range of its column
abbrev pub InColumn : ColumnKind → ℤ → Type 0
InColumn (kind.Whole min max) cell = (min ≤ℤ cell) × (cell ≤ℤ max)
InColumn (kind.Fixed min max) cell = (min ≤ℤ cell) × (cell ≤ℤ max)
InColumn (kind.Word words) cell = (place : ℕ) × (place < length (table_words words)) × (cell ≡ pos place)
InColumn kind.Skip cell = cell ≡ pos 0

-- cells, each in the range of its column
abbrev pub InColumns : List ColumnKind → List ℤ → Type 0
InColumns [] [] = ⊤
InColumns [] (cell ∷ cells) = ⊥
InColumns (kind ∷ kinds) [] = ⊥
InColumns (kind ∷ kinds) (cell ∷ cells) = InColumn kind cell × InColumns kinds cells

-- one line that begins with a comment sign
abbrev pub IsHeader : List ℕ → Type 0
IsHeader header = (slice_get header 0 ≡ Some 35) × All (λ byte. byte ≢ 10) header

-- read as a table of these columns, a text has no fault, and these cells
abbrev pub ReadsBack : List ColumnKind → List TableRow → List ℕ → Type 0
ReadsBack kinds rows text = (faults kinds text ≡ [])
    × (map (λ row. row.cells) (table_of kinds text) ≡ map (λ row. row.cells) rows)
