-- What holds before each turn.
use Rattle.plan_num.proofs.Common.{◌≡◌, ◌≤◌, take, count_by}
use Rattle.event_tables.proofs.Common.{leads}
use Rattle.roll_out.proofs.rules.lacks_way.Given as goal

abbrev pub invariant-loop-activity : goal.invariant-loop-activity
invariant-loop-activity l = record {
  told : l.count ≡ count_by (leads (l.event, l.next)) (take l.activity-index l.activities);
  few : l.count ≤ l.activity-index;
}
