-- From the table of a text to the text: what refuses the one refuses the other.
use Rattle.plan_num.proofs.Common.{arith, ◌≡◌, ℕ, ◌≤◌, nat_lt, List, [], length, All, IfOk, IfSome}
use Rattle.plan_num.proofs.Common.{refl, subst, sym, Result, Ok, Err, Option, Some, None, slice_get}
use Rattle.plan_num.proofs.Common.{ltb-false, append-nil}
use Rattle.tables.specs.declared.column.ColumnKind.{ColumnKind}
use Rattle.tables.specs.declared.file_id.FileId.{FileId}
use Rattle.tables.specs.declared.refusal.Refusal.{Refusal}
use Rattle.tables.specs.declared.refusal.StageFault.{StageFault}
use Rattle.tables.specs.Inputs.{Input, records, records_of, cell_faults, limit_faults, table_row_faults, input_faults, Refuses, UnlessFault}
use Rattle.tables.specs.Reading.{table_of}
use Rattle.tables.specs.Tables.{TableRow}
use Rattle.tables.specs.Writing.{InColumns}
use Rattle.tables.proofs.Inputs.{faults_of_table, refused_limits, refused_rows, no_faults}
use Rattle.tables.proofs.Ranges.{table_in_columns}
use Rattle.tables.specs.declared.row_limit.RowLimit.{RowLimit}
use Rattle.tables.specs.RowsOfTables.{limits_of, too_many_rows}
use Rattle.plan_num.proofs.Lists.{none_first, unmapped}

-- the cells of a text that was read are in the ranges of their columns
pub cells_inside : (file : FileId) (kinds : List ColumnKind) (text : List ℕ) (read : Result (List TableRow) StageFault)
    → UnlessFault (cell_faults file kinds text) (λ table. table ≡ table_of kinds text) read
    → IfOk read (All (λ row. InColumns kinds row.cells))
cells_inside file kinds text (Ok table) h = subst (All (λ row. InColumns kinds row.cells))
    (sym h.1) (table_in_columns kinds text (unmapped _ _ h.0))
cells_inside file kinds text (Err fault) h = tt

-- what a limit of the number of rows refuses
pub limits_are : {X : Type 0} (limit : Option RowLimit) (rows : List X)
    → limit_faults (limits_of limit) rows ≡ too_many_rows limit (length rows)
limits_are None rows = refl
limits_are (Some limit) rows = append-nil (too_many_rows (Some limit) (length rows))

-- so many rows that are not too many are within the limit
pub rows_within : (limit : Option RowLimit) (count rows : ℕ) (told : Option Refusal) → count ≡ rows
    → told ≡ slice_get (too_many_rows limit count) 0 → told ≡ None
    → IfSome limit (λ limit. rows ≤ limit.most)
rows_within None count rows told is first none = tt
rows_within (Some limit) count rows told is first none = grind (arith, ltb-false, nat_lt, slice_get)

module _ {X : Type 0} (limit : Option RowLimit) (rows : List X) (count : ℕ) (told : Option Refusal)
    (is : count ≡ length rows) (first : told ≡ slice_get (too_many_rows limit count) 0) where
  -- so many rows are too many
  pub limit_refuses : (why : Refusal) → told ≡ Some why
      → slice_get (limit_faults (limits_of limit) rows) 0 ≡ Some why
  limit_refuses why by = grind arith

  -- or they are few enough
  pub few_rows : told ≡ None → limit_faults (limits_of limit) rows ≡ []
  few_rows none = grind (arith, limits_are, none_first)

module _ {X : Type 0} (input : Input X) (text : List ℕ) (table : List TableRow)
    (cells : cell_faults input.file input.columns text ≡ [])
    (is : table ≡ table_of input.columns text) where
  -- a text whose table is refused by a limit
  pub limits_refuse : (fault : StageFault)
      → Refuses (limit_faults input.limits (records input table)) fault → Refuses
      (input_faults input text) fault
  limits_refuse fault by = subst
      (λ (all : List Refusal). Refuses all fault) (faults_of_table input text table cells is)
      (refused_limits input table fault by)

  -- and one whose rows were read, where the file has no rule as a whole
  pub rows_read : {A : Type 0} (P : A → List X → Type 0) → input.table_rules ≡ []
      → limit_faults input.limits (records input table) ≡ [] → (read : Result A StageFault)
      → UnlessFault (table_row_faults input table) (λ made. P made (records input table)) read
      → UnlessFault (input_faults input text) (λ made. P made (records_of input text)) read
  rows_read P plain few (Ok made) h = grind (arith, faults_of_table, no_faults)
  rows_read P plain few (Err fault) h = subst
      (λ (all : List Refusal). Refuses all fault) (faults_of_table input text table cells is)
      (refused_rows input table fault few h)
