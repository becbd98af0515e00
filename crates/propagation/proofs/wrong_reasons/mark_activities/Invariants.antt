-- The marks go on from here as they do from the first ones.
use Rattle.plan_num.proofs.Common.{◌≡◌, ◌&&◌, drop, length}
use Rattle.propagation.specs.EarlyEvents.{is_just}
use Rattle.propagation.specs.Marks.{marked_by, names}
use Rattle.propagation.specs.Reasons.{reason_for}
use Rattle.propagation.proofs.wrong_reasons.mark_activities.Given as goal

abbrev pub invariant-loop-activity : goal.invariant-loop-activity
invariant-loop-activity l = record {
  told : marked_by (λ activity. activity.step.to)
      (λ activity. names (reason_for l.reasons activity.step.to) activity.id && is_just l.times activity.step)
      l.marks.items (drop l.activity-index l.activities)
      ≡ marked_by (λ activity. activity.step.to)
      (λ activity. names (reason_for l.reasons activity.step.to) activity.id && is_just l.times activity.step)
      l.fn.marks.items l.activities;
  each : length l.marks.items ≡ length l.times;
}
