-- The table that a text is, and its faults.
use Rattle.std.specs.Prelude.{ℕ, ℤ, pos, ◌≡◌, ◌+◌, ◌++◌, ◌==◌, ◌&&◌, int_le, if◌then◌else◌, Bool, true, false, List, [], ◌∷◌, length, map, position, slice_get, Option, Some, None, option_map, Result, Ok, Err, ⊤}
use Rattle.std.specs.List.{flat_map}
use Rattle.std.specs.Option.{ok_or}
use Rattle.std.specs.Str.{bytes_eq}
use Rattle.plan_num.specs.Number.{fixed_of, whole_of}
use Rattle.tables.specs.declared.column.ColumnKind.{ColumnKind}
use Rattle.tables.specs.declared.column.ColumnKind.TheVariants as kind
use Rattle.tables.specs.declared.row_why.RowWhy.{RowWhy}
use Rattle.tables.specs.declared.row_why.RowWhy.TheVariants as why
use Rattle.tables.specs.declared.read_fault.RowFault.{RowFault}
use Rattle.tables.specs.declared.read_fault.ReadFault.{ReadFault}
use Rattle.tables.specs.declared.read_fault.ReadFault.TheVariants as fault
use Rattle.tables.specs.Names.{table_words}
use Rattle.text_fields.specs.Rows.{Row, has_mark, rows}
use Rattle.tables.specs.Tables.{TableRow}

-- the place of a word in a table of words, compared byte for byte
abbrev pub place_of : List (List ℕ) → List ℕ → Option ℕ
place_of words field = position (λ word. bytes_eq word field) words

-- a number that lies in a range, or why there is none
abbrev pub in_range : ℤ → ℤ → ℕ → Option ℤ → Result ℤ RowWhy
in_range min max column None = Err (why.NotNumber column)
in_range min max column (Some number) = if int_le min number
    && int_le number max then Ok number else Err (why.OutOfRange column)

-- the cell that a field makes in a column, or why it makes none
unfoldable pub cell_of : ColumnKind → ℕ → List ℕ → Result ℤ RowWhy
cell_of (kind.Whole min max) column field = in_range min max column (whole_of field)
cell_of (kind.Fixed min max) column field = in_range min max column (fixed_of field)
cell_of (kind.Word words) column field = ok_or (option_map pos (place_of (table_words words) field))
    (why.UnknownWord column)
cell_of kind.Skip column field = Ok (pos 0)

-- what fields make, column by column, from a column on
unfoldable pub cells_from : ℕ → List ColumnKind → List (List ℕ) → List (Result ℤ RowWhy)
cells_from column (kind ∷ kinds) (field ∷ fields) = cell_of kind column field ∷ cells_from (column + 1) kinds fields
cells_from column _ _ = []

-- what was refused
unfoldable pub errors : {A E : Type 0} → List (Result A E) → List E
errors [] = []
errors (Ok value ∷ rest) = errors rest
errors (Err error ∷ rest) = error ∷ errors rest

-- what was not refused
unfoldable pub values : {A E : Type 0} → List (Result A E) → List A
values [] = []
values (Ok value ∷ rest) = value ∷ values rest
values (Err error ∷ rest) = values rest

-- each reason for which a row is refused, in order: its number of fields, or those of its columns
unfoldable pub row_whys : List ColumnKind → Row → List RowWhy
row_whys kinds row = if length row.fields == length kinds then errors
    (cells_from 1 kinds row.fields) else why.FieldCount (length row.fields) ∷ []

-- the faults of a row
abbrev pub row_faults : List ColumnKind → Row → List RowFault
row_faults kinds row = map (λ reason. record { row = row.number; why = reason }) (row_whys kinds row)

-- the row of a table that a row makes
abbrev pub table_row : List ColumnKind → Row → TableRow
table_row kinds row = record { number = row.number; cells = values (cells_from 1 kinds row.fields) }

-- every fault of a text as a table of these columns, in order
unfoldable pub faults : List ColumnKind → List ℕ → List RowFault
faults kinds text = if has_mark text then record { row = 1; why = why.ByteOrderMark } ∷ [] else
    flat_map (row_faults kinds) (rows text)

-- the table of a text without a fault
unfoldable pub table_of : List ColumnKind → List ℕ → List TableRow
table_of kinds text = map (table_row kinds) (rows text)

-- what reading gives: the table where there is no fault, and else the first of all faults; want of memory is free
abbrev pub ReadGives : List RowFault → List TableRow → Result (List TableRow) ReadFault → Type 0
ReadGives all table (Ok read) = (all ≡ []) × (read ≡ table)
ReadGives all table (Err (fault.Row first)) = slice_get all 0 ≡ Some first
ReadGives all table (Err fault.NoMemory) = ⊤

-- what reading one row more into a table does
abbrev pub RowGives : List ColumnKind → Row → List TableRow → List TableRow
    → Result (Unit {0}) ReadFault → Type 0
RowGives kinds row old new (Ok _) =
    (row_faults kinds row ≡ []) × (new ≡ old ++ table_row kinds row ∷ [])
RowGives kinds row old new (Err (fault.Row first)) = slice_get (row_faults kinds row) 0 ≡ Some first
RowGives kinds row old new (Err fault.NoMemory) = ⊤

-- what beginning to read the rows of a text gives: them, or the one fault of a text that begins with a byte order mark
abbrev pub RowsGive : List ℕ → Result (List Row) RowFault → Type 0
RowsGive text (Ok left) = (has_mark text ≡ false) × (left ≡ rows text)
RowsGive text (Err first) = (has_mark text ≡ true) × (first ≡ record { row = 1; why = why.ByteOrderMark })
