-- The rows of a table by what a row stands for, and files that have no rule of the whole table.
use Rattle.std.specs.Prelude.{ℕ, ℤ, ◌≡◌, nat_lt, if◌then◌else◌, List, [], ◌∷◌, map, Option, Some, None, Result, Vec}
use Rattle.std.specs.Global.{Global}
use Rattle.tables.specs.declared.column.ColumnKind.{ColumnKind}
use Rattle.tables.specs.declared.file_id.FileId.{FileId}
use Rattle.tables.specs.declared.refusal.Refusal.{Refusal}
use Rattle.tables.specs.declared.refusal.Refusal.TheVariants as refusal
use Rattle.tables.specs.declared.refusal.StageFault.{StageFault}
use Rattle.tables.specs.Inputs.{Numbered, Input, Limit, RowRule, row_limit, input_faults, records_of, UnlessFault}
use Rattle.tables.specs.Reading.{faults, table_of}
use Rattle.tables.specs.Tables.{TableRow}
use Rattle.tables.specs.Writing.{table_text}
use Rattle.tables.specs.declared.row_limit.RowLimit.{RowLimit}

-- what the rows of a table stand for
abbrev pub records_by : {X : Type 0} → (List ℤ → X) → List TableRow → List X
records_by of rows = map (λ row. of row.cells) rows

-- the same with the numbers of the rows
abbrev pub numbered_by : {X : Type 0} → (List ℤ → X) → List TableRow → List (Numbered X)
numbered_by of rows = map (λ row. record { number = row.number; row = of row.cells }) rows

-- the rows of a table for some records; in a text each gets its number
abbrev pub rows_by : {X : Type 0} → (X → List ℤ) → List X → List TableRow
rows_by cells_of rows = map (λ row. record { number = 0; cells = cells_of row }) rows

-- the text of a file with a row for each record
abbrev pub file_text : {X : Type 0} → List ℕ → List ColumnKind → (X → List ℤ) → List X → List ℕ
file_text header columns cells_of rows = table_text header columns (rows_by cells_of rows)

-- read as a table of these columns a text has no fault, and its rows stand for these records
abbrev pub ReadsAs : {X : Type 0} → List ColumnKind → (List ℤ → X) → List X → List ℕ → Type 0
ReadsAs columns of rows text = (faults columns text ≡ []) × (records_by of (table_of columns text)
    ≡ rows)

-- what reading a text of a file gives: what its rows stand for where it has no fault, and else the first
-- of all faults; want of memory is free
abbrev pub ReadsFile : {X : Type 0} → Input X → List ℕ → Result (Vec X Global) StageFault → Type 0
ReadsFile input text read =
    UnlessFault (input_faults input text) (λ rows. rows.items ≡ records_of input text) read

-- the limits of a file that has at most one, of its rows
abbrev pub limits_of : {X : Type 0} → Option RowLimit → List (Limit X)
limits_of None = []
limits_of (Some limit) = row_limit limit.what limit.most ∷ []

-- what is refused of so many rows
abbrev pub too_many_rows : Option RowLimit → ℕ → List Refusal
too_many_rows None count = []
too_many_rows (Some limit) count =
    if nat_lt limit.most count then refusal.TooMany limit.what count ∷ [] else []

-- a file whose rows have rules, and that has no rule as a whole
abbrev pub plain_input : {X : Type 0} → FileId → List ColumnKind → (List ℤ → X) → Option RowLimit
    → List (RowRule X) → Input X
plain_input file columns of limit rules = record {
  file = file;
  columns = columns;
  read = of;
  limits = limits_of limit;
  row_rules = rules;
  table_rules = [];
}
