-- The sum is that of the activities of the kind so far.
use Rattle.plan_num.proofs.Common.{◌≡◌, ◌≤◌, ◌*◌, filter, take, sum_by}
use Rattle.event_tables.proofs.Common.{same_kind}
use Rattle.evaluators.specs.Statistic.{minutes_of}
use Rattle.evaluators.proofs.periodic.minutes_with.Given as goal

abbrev pub invariant-loop-activity : goal.invariant-loop-activity
invariant-loop-activity l = record {
  told : l.sum ≡ sum_by (minutes_of l.period l.times)
      (filter (λ activity. same_kind activity.kind l.kind) (take l.activity-index l.activities));
  few : l.sum ≤ l.activity-index * 100720;
}
