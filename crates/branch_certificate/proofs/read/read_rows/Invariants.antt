-- The rows that are left make the rest of a table, and what is known is known up to their place.
use Rattle.plan_num.proofs.Common.{◌≡◌, ℕ, drop, length, map, flat_map}
use Rattle.tables.proofs.Common.{tree_columns, faults, table_of, table_row}
use Rattle.tables.specs.Reading.{row_faults}
use Rattle.branch_certificate.specs.ReadRows.{IsReadUpTo}
use Rattle.branch_certificate.proofs.read.read_rows.Given as goal

abbrev pub invariant-rows : goal.invariant-rows
invariant-rows l = record {
  i : ℕ;
  left : drop i (table_of tree_columns l.bytes) ≡ map (table_row tree_columns) l.rows;
  cells : flat_map (row_faults tree_columns) l.rows ≡ faults tree_columns l.bytes;
  up_to : IsReadUpTo l.ids (table_of tree_columns l.bytes) i l.fault l.so_far;
}

abbrev pub decreases-rows : goal.decreases-rows
decreases-rows l = length l.rows
