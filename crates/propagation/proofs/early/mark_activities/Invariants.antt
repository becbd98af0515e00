-- The marks go on from here as they do from the first ones.
use Rattle.plan_num.proofs.Common.{◌≡◌, drop, length, nat_lt}
use Rattle.propagation.specs.LeastTimes.{asked, time_at}
use Rattle.propagation.specs.Marks.{marked_by}
use Rattle.propagation.proofs.early.mark_activities.Given as goal

abbrev pub invariant-loop-activity : goal.invariant-loop-activity
invariant-loop-activity l = record {
  told : marked_by (λ activity. activity.step.to)
      (λ activity. nat_lt (time_at l.times activity.step.to) (asked l.times activity.step)) l.marks.items
      (drop l.activity-index l.activities)
      ≡ marked_by (λ activity. activity.step.to)
      (λ activity. nat_lt (time_at l.times activity.step.to) (asked l.times activity.step)) l.fn.marks.items
      l.activities;
  each : length l.marks.items ≡ length l.times;
}
