-- The rows so far are the first ones.
use Rattle.std.proofs.Common.{◌≡◌, take}
use Rattle.tables.proofs.Common.{records_by}
use Rattle.wait_choice.specs.WaitTexts.{wait_row}
use Rattle.wait_choice.proofs.rows.rows_of.Given as goal

abbrev pub invariant-loop-row : goal.invariant-loop-row
invariant-loop-row l = l.rows.items ≡ take l.row (records_by wait_row l.table)
