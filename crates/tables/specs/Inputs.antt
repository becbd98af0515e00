-- The faults of the input files of a stage, in the order in which they are looked for.
use Rattle.std.specs.Prelude.{ℕ, ℤ, ◌≡◌, nat_lt, if◌then◌else◌, Bool, List, [], ◌∷◌, ◌++◌, length, map, slice_get, Option, Some, None, Result, Ok, Err, ⊤}
use Rattle.std.specs.List.{flat_map, list_any}
use Rattle.std.specs.Ordering.{int_eq}
use Rattle.tables.specs.declared.column.ColumnKind.{ColumnKind}
use Rattle.tables.specs.declared.counted.Counted.{Counted}
use Rattle.tables.specs.declared.file_id.FileId.{FileId}
use Rattle.tables.specs.declared.row_why.RowWhy.{RowWhy}
use Rattle.tables.specs.declared.row_why.RowWhy.TheVariants as why
use Rattle.tables.specs.declared.refusal.Refusal.{Refusal}
use Rattle.tables.specs.declared.refusal.Refusal.TheVariants as refusal
use Rattle.tables.specs.declared.refusal.StageFault.{StageFault}
use Rattle.tables.specs.declared.refusal.StageFault.TheVariants as stage
use Rattle.tables.specs.Tables.{TableRow}
use Rattle.tables.specs.Reading.{faults, table_of}

-- a row of a file: its number in the text, and what it stands for
pub record Numbered (X : Type 0) : Type 0 where
  pub number : ℕ
  pub row : X

-- what is counted over the rows of a file, and how much of it there may be
pub record Limit (X : Type 0) : Type 0 where
  pub what : Counted
  pub most : ℕ
  pub count : List X → ℕ

-- a rule of the rows of a file: whether a row breaks it after the rows before it, and why it is then
-- refused
pub record RowRule (X : Type 0) : Type 0 where
  pub is_broken : List X → X → Bool
  pub why : RowWhy

-- a rule of a whole file: the number of the row at which the file breaks it, if it does, and why the
-- file is then refused; row 0 is the file as a whole
pub record TableRule (X : Type 0) : Type 0 where
  pub broken_at : List (Numbered X) → Option ℕ
  pub why : RowWhy

-- a file that a stage reads: its columns, what the cells of a row stand for, and its limits and rules,
-- each in their order
pub record Input (X : Type 0) : Type 0 where
  pub file : FileId
  pub columns : List ColumnKind
  pub read : List ℤ → X
  pub limits : List (Limit X)
  pub row_rules : List (RowRule X)
  pub table_rules : List (TableRule X)

-- the limit of the number of rows
abbrev pub row_limit : {X : Type 0} → Counted → ℕ → Limit X
row_limit what most = record { what = what; most = most; count = length }

-- the rule that each row has an id of its own
abbrev pub own_id : {X : Type 0} → (X → ℤ) → RowRule X
own_id id = record {
  is_broken = λ before row. list_any (λ other. int_eq (id row) (id other)) before;
  why = why.RepeatedId;
}

-- numbered rows without their numbers
abbrev pub unnumbered : {X : Type 0} → List (Numbered X) → List X
unnumbered rows = map (λ at. at.row) rows

-- the rule that a whole file is not at fault, by a test on its rows that names none of them
abbrev pub whole_rule : {X : Type 0} → (List X → Bool) → RowWhy → TableRule X
whole_rule is_broken why = record {
  broken_at = λ rows. if is_broken (unnumbered rows) then Some 0 else None;
  why = why;
}

-- what the rows of a table stand for
abbrev pub records : {X : Type 0} → Input X → List TableRow → List X
records input rows = map (λ row. input.read row.cells) rows

-- the same with the numbers of the rows
abbrev pub numbered : {X : Type 0} → Input X → List TableRow → List (Numbered X)
numbered input rows = map (λ row. record { number = row.number; row = input.read row.cells }) rows

-- what the rows of a text stand for, where it has no fault
abbrev pub records_of : {X : Type 0} → Input X → List ℕ → List X
records_of input text = records input (table_of input.columns text)

-- the faults of the cells of a text
abbrev pub cell_faults : FileId → List ColumnKind → List ℕ → List Refusal
cell_faults file columns text =
    map (λ fault. refusal.BadRow file fault.row fault.why) (faults columns text)

-- a limit that is passed
abbrev pub limit_fault : {X : Type 0} → List X → Limit X → List Refusal
limit_fault rows limit =
    if nat_lt limit.most (limit.count rows)
    then refusal.TooMany limit.what (limit.count rows) ∷ [] else []

-- the limits that are passed
abbrev pub limit_faults : {X : Type 0} → List (Limit X) → List X → List Refusal
limit_faults limits rows = flat_map (limit_fault rows) limits

-- the reasons of the rules that a row breaks after the rows before it
abbrev pub broken_whys : {X : Type 0} → List (RowRule X) → List X → X → List RowWhy
broken_whys rules before row =
    flat_map (λ rule. if rule.is_broken before row then rule.why ∷ [] else []) rules

-- the rules that rows break, row by row and rule by rule, where some rows stand before the first one
unfoldable pub row_faults : {X : Type 0} → FileId → List (RowRule X) → List X → List (Numbered X)
    → List Refusal
row_faults file rules before [] = []
row_faults file rules before (at ∷ rows) =
    map (λ why. refusal.BadRow file at.number why) (broken_whys rules before at.row)
    ++ row_faults file rules (before ++ at.row ∷ []) rows

-- the fault at the row at which a rule of a whole file is broken
abbrev pub fault_at : FileId → RowWhy → Option ℕ → List Refusal
fault_at file why None = []
fault_at file why (Some row) = refusal.BadRow file row why ∷ []

-- the rules that the rows of a table break
abbrev pub table_row_faults : {X : Type 0} → Input X → List TableRow → List Refusal
table_row_faults input rows = row_faults input.file input.row_rules [] (numbered input rows)

-- the rules that a whole file breaks
abbrev pub whole_faults : {X : Type 0} → FileId → List (TableRule X) → List (Numbered X) → List Refusal
whole_faults file rules rows = flat_map (λ rule. fault_at file rule.why (rule.broken_at rows)) rules

-- the faults of a table: its limits, then the rules of its rows, then its rules as a whole
abbrev pub table_faults : {X : Type 0} → Input X → List TableRow → List Refusal
table_faults input rows =
    limit_faults input.limits (records input rows)
    ++ table_row_faults input rows
    ++ whole_faults input.file input.table_rules (numbered input rows)

-- some faults, and others where there are none of them
abbrev pub or_else : List Refusal → List Refusal → List Refusal
or_else [] others = others
or_else (first ∷ more) others = first ∷ more

-- every fault of a text as an input, in order: those of its cells, and where there is none, those of
-- its table
unfoldable pub input_faults : {X : Type 0} → Input X → List ℕ → List Refusal
input_faults input text =
    or_else (cell_faults input.file input.columns text)
    (table_faults input (table_of input.columns text))

-- what is refused where there are some faults: the first of them; want of memory is free
abbrev pub Refuses : List Refusal → StageFault → Type 0
Refuses all (stage.Refused first) = slice_get all 0 ≡ Some first
Refuses all stage.NoMemory = ⊤

-- what a call gives that looks for faults: where there is none a value with some property, and else
-- the first of them
abbrev pub UnlessFault : {A : Type 0} → List Refusal → (A → Type 0) → Result A StageFault → Type 0
UnlessFault all Fits (Ok made) = (all ≡ []) × Fits made
UnlessFault all Fits (Err fault) = Refuses all fault
