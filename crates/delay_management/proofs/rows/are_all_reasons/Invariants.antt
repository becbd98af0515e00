-- What is left of the rows tells whether all of them are in order.
use Rattle.plan_num.proofs.Common.{◌≡◌, ◌+◌, drop, map, nat_eq, enumerate_from, list_all}
use Rattle.tables.proofs.Common.{records_by}
use Rattle.delay_management.specs.Judged.{reason_row}
use Rattle.delay_management.proofs.rows.are_all_reasons.Given as goal

abbrev pub invariant-loop-row : goal.invariant-loop-row
invariant-loop-row l =
    list_all (λ at. nat_eq at.1 at.0) (enumerate_from 1 (map (λ row. row.event) (records_by reason_row l.table)))
    ≡ list_all (λ at. nat_eq at.1 at.0) (enumerate_from (l.row + 1)
    (map (λ row. row.event) (records_by reason_row (drop l.row l.table))))
