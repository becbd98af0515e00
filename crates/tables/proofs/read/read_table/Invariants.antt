-- The rows that are left make the rest of the faults and of the table.
use Rattle.plan_num.proofs.Common.{◌≡◌, ◌++◌, length, map, flat_map}
use Rattle.tables.specs.Reading.{row_faults, table_row, faults, table_of}
use Rattle.tables.proofs.read.read_table.Given as goal

abbrev pub invariant-rows : goal.invariant-rows
invariant-rows g l =
    record {
      faults_left : flat_map (row_faults l.kinds) l.rows ≡ faults l.kinds l.bytes;
      rows_left : l.table ++ map (table_row l.kinds) l.rows ≡ table_of l.kinds l.bytes;
    }

abbrev pub decreases-rows : goal.decreases-rows
decreases-rows g l = length l.rows
