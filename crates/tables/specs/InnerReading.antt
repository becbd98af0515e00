-- Inner words: what parts of reading a table give. A reader of the contracts of this crate needs
-- none of them.
use Rattle.std.specs.Prelude.{ℕ, ℤ, ◌≡◌, ◌+◌, List, [], ◌++◌, drop, map, slice_get, Some, Result, Ok, Err}
use Rattle.std.specs.Prelude.{⊤}
use Rattle.tables.specs.declared.row_why.RowWhy.{RowWhy}
use Rattle.tables.specs.declared.read_fault.ReadFault.{ReadFault}
use Rattle.tables.specs.declared.read_fault.ReadFault.TheVariants as fault
use Rattle.tables.specs.declared.column.ColumnKind.{ColumnKind}
use Rattle.tables.specs.Reading.{cells_from, errors, values}

-- what appending the cells of a row does
abbrev pub CellsGive : ℕ → List (Result ℤ RowWhy) → List ℤ → List ℤ → Result (Unit {0}) ReadFault
    → Type 0
CellsGive number made old new (Ok _) = (errors made ≡ []) × (new ≡ old ++ values made)
CellsGive number made old new (Err (fault.Row first)) =
    slice_get (map (λ reason. record { row = number; why = reason }) (errors made)) 0 ≡ Some first
CellsGive number made old new (Err fault.NoMemory) = ⊤

-- what appending the cells of so many first columns leaves to do: with those of the rest they are
-- the errors and the cells of all columns
abbrev pub CellsLeft : List ColumnKind → List (List ℕ) → ℕ → List ℤ → List ℤ → Type 0
CellsLeft kinds fields done old new =
    (errors (cells_from (done + 1) (drop done kinds) (drop done fields))
    ≡ errors (cells_from 1 kinds fields))
    × (new ++ values (cells_from (done + 1) (drop done kinds) (drop done fields))
    ≡ old ++ values (cells_from 1 kinds fields))
