-- The table of potentials: how it is written, and why a text is none.
use Rattle.std.specs.Prelude.{ℕ, pos, ◌≡◌, ◌+◌, ◌==◌, ◌&&◌, nat_lt, if◌then◌else◌, Bool, List, []}
use Rattle.std.specs.Prelude.{◌∷◌, ◌++◌, length, map, get_or, slice_get, unsigned_abs, codes, Some}
use Rattle.std.specs.Prelude.{Result, Ok, Err, ⊤}
use Rattle.tables.specs.declared.read_fault.RowFault.{RowFault}
use Rattle.tables.specs.declared.read_fault.ReadFault.{ReadFault}
use Rattle.tables.specs.declared.read_fault.ReadFault.TheVariants as fault
use Rattle.tables.specs.declared.row_why.RowWhy.TheVariants as why
use Rattle.tables.specs.Columns.{potential_columns}
use Rattle.tables.specs.Reading.{faults, table_of}
use Rattle.tables.specs.Tables.{TableRow}
use Rattle.tables.specs.Writing.{table_text, InColumns}
use Rattle.vehicle_model.specs.ReadSchedules.{or_others}
use Rattle.link_plans.specs.Potentials.{PotentialParts}

-- the rows of potentials from a trip on, counted from 1: a trip, and its two numbers
abbrev pub rows_from : ℕ → List ℕ → List ℕ → List TableRow
rows_from trip (u ∷ more_u) (v ∷ more_v) =
    record { number = 0; cells = pos trip ∷ pos u ∷ pos v ∷ [] } ∷ rows_from (trip + 1) more_u more_v
rows_from trip _ _ = []

abbrev pub potential_rows : PotentialParts → List TableRow
potential_rows potentials = rows_from 1 potentials.u potentials.v

abbrev pub potential_header : List ℕ
potential_header = codes "# trip; u; v"

-- the text of potentials
unfoldable pub potentials_text : PotentialParts → List ℕ
potentials_text potentials =
    table_text potential_header potential_columns (potential_rows potentials)

-- a row is that of the trip behind some, of so many
abbrev pub is_trip_row : ℕ → ℕ → TableRow → Bool
is_trip_row count before row =
    (unsigned_abs (get_or row.cells 0 (pos 0)) == before + 1) && nat_lt before count

-- the rows that are not that of the next trip behind some; and a fault at row 0, where trips are left
unfoldable pub gaps_from : ℕ → ℕ → List TableRow → List RowFault
gaps_from count before [] =
    if nat_lt before count then record { row = 0; why = why.OrderGap } ∷ [] else []
gaps_from count before (row ∷ rows) =
    (if is_trip_row count before row then [] else record { row = row.number; why = why.OrderGap } ∷ [])
    ++ gaps_from count (before + 1) rows

-- every fault of a text as potentials of so many trips: that it is no table, else rows that are not
-- theirs
unfoldable pub table_faults : ℕ → List ℕ → List RowFault
table_faults count text = or_others (faults potential_columns text)
    (gaps_from count 0 (table_of potential_columns text))

-- the numbers in a column
abbrev pub column_of : ℕ → List TableRow → List ℕ
column_of column rows = map (λ row. unsigned_abs (get_or row.cells column (pos 0))) rows

-- the potentials of a table
abbrev pub potentials_in : List TableRow → PotentialParts
potentials_in rows = record { u = column_of 1 rows; v = column_of 2 rows }

-- the potentials of a text without a fault
unfoldable pub potentials_of : List ℕ → PotentialParts
potentials_of text = potentials_in (table_of potential_columns text)

-- a text has no fault as potentials, and is read as some
pub record IsReadBack (potentials : PotentialParts) (text : List ℕ) : Type 0 where
  pub faultless : table_faults (length potentials.u) text ≡ []
  pub same : potentials_of text ≡ potentials

-- cells are in the ranges of their columns
abbrev pub FitsColumns : TableRow → Type 0
FitsColumns row = InColumns potential_columns row.cells

-- what reading gives: the potentials, or the first of all faults; want of memory is free
abbrev pub PotentialsGive : List RowFault → PotentialParts → Result PotentialParts ReadFault → Type 0
PotentialsGive all potentials (Ok read) = (all ≡ []) × (read ≡ potentials)
PotentialsGive all potentials (Err (fault.Row first)) = slice_get all 0 ≡ Some first
PotentialsGive all potentials (Err fault.NoMemory) = ⊤
