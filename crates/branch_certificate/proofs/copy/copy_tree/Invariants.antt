-- The lines that are written, with those of the rows that are left, make the text of all.
use Rattle.plan_num.proofs.Common.{◌≡◌, ◌++◌, length, map, flat_map}
use Rattle.tables.proofs.Common.{tree_columns, faults, table_of, table_row, line_text, table_text}
use Rattle.tables.specs.Reading.{row_faults}
use Rattle.branch_certificate.specs.TreeTexts.{tree_header}
use Rattle.branch_certificate.proofs.copy.copy_tree.Given as goal

abbrev pub invariant-rows : goal.invariant-rows
invariant-rows l = record {
  cells : flat_map (row_faults tree_columns) l.rows ≡ faults tree_columns l.bytes;
  whole : l.lines.items ++ flat_map (line_text tree_columns) (map (table_row tree_columns) l.rows)
      ≡ table_text tree_header tree_columns (table_of tree_columns l.bytes);
}

abbrev pub decreases-rows : goal.decreases-rows
decreases-rows l = length l.rows
