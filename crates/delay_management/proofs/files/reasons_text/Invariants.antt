-- The table has the rows of the first reasons.
use Rattle.plan_num.proofs.Common.{◌≡◌, take}
use Rattle.tables.proofs.Common.{rows_by}
use Rattle.delay_management.specs.DispositionStage.{reason_cells, reason_rows}
use Rattle.delay_management.proofs.files.reasons_text.Given as goal

abbrev pub invariant-loop-index : goal.invariant-loop-index
invariant-loop-index l = l.table ≡ rows_by reason_cells (take l.index (reason_rows l.reasons))
