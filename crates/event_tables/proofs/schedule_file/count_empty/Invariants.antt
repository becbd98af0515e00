-- The empty rides among the rows so far.
use Rattle.plan_num.proofs.Common.{◌≡◌, ◌≤◌, filter, length, take}
use Rattle.event_tables.specs.Cells.{schedule_row}
use Rattle.tables.proofs.Common.{records_by}
use Rattle.event_tables.specs.Schedules.{is_empty_row}
use Rattle.event_tables.proofs.schedule_file.count_empty.Given as goal

abbrev pub invariant-loop-i : goal.invariant-loop-i
invariant-loop-i l = record {
  counted : l.count ≡ length (filter is_empty_row (records_by schedule_row (take l.i l.table)));
  few : l.count ≤ l.i;
}
