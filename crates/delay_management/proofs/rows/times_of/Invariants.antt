-- The times so far are those of the first rows.
use Rattle.plan_num.proofs.Common.{◌≡◌, ◌≤◌, All, map, take}
use Rattle.event_tables.proofs.Common.{disposed_time}
use Rattle.tables.proofs.Common.{records_by}
use Rattle.delay_management.proofs.rows.times_of.Given as goal
use Rattle.propagation.specs.declared.times.TheConstants.{LATEST}

abbrev pub invariant-loop-row : goal.invariant-loop-row
invariant-loop-row l = record {
  told : l.times.items ≡ take l.row (map (λ row. row.time) (records_by disposed_time l.table));
  small : All (λ time. time ≤ LATEST) l.times.items;
}
