-- The reasons so far are those of the first rows.
use Rattle.plan_num.proofs.Common.{◌≡◌, map, take}
use Rattle.tables.proofs.Common.{records_by}
use Rattle.delay_management.specs.Judged.{reason_row}
use Rattle.delay_management.proofs.rows.reasons_of.Given as goal

abbrev pub invariant-loop-row : goal.invariant-loop-row
invariant-loop-row l = l.reasons.items ≡ take l.row (map (λ row. row.reason) (records_by reason_row l.table))
