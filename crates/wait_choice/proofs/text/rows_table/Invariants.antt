-- The table has the first rows.
use Rattle.std.proofs.Common.{◌≡◌, take}
use Rattle.tables.proofs.Common.{rows_by}
use Rattle.wait_choice.specs.WaitTexts.{wait_cells}
use Rattle.wait_choice.proofs.text.rows_table.Given as goal

abbrev pub invariant-loop-row : goal.invariant-loop-row
invariant-loop-row l = l.table ≡ take l.row-index (rows_by wait_cells l.rows)
