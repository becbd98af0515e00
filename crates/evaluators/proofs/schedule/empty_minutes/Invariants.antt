-- The sum is that of the empty rides so far.
use Rattle.plan_num.proofs.Common.{◌≡◌, ◌≤◌, ◌*◌, filter, take, sum_by}
use Rattle.event_tables.proofs.Common.{is_empty_row}
use Rattle.evaluators.specs.Statistic.{minutes_of_row}
use Rattle.evaluators.proofs.schedule.empty_minutes.Given as goal

abbrev pub invariant-loop-row : goal.invariant-loop-row
invariant-loop-row l = record {
  told : l.sum ≡ sum_by minutes_of_row (filter is_empty_row (take l.row-index l.rows));
  few : l.sum ≤ l.row-index * 4294967295;
}
