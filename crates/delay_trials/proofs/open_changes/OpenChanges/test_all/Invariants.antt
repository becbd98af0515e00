-- The changes so far are tested.
use Rattle.plan_num.proofs.Common.{◌≡◌, ◌<◌, ◌&&◌, ℕ, false, get_or, length}
use Rattle.propagation.specs.declared.step.Activity.{Activity}
use Rattle.propagation.proofs.Common.{is_broken}
use Rattle.delay_trials.proofs.open_changes.OpenChanges.test_all.Given as goal

abbrev pub invariant-loop-change : goal.invariant-loop-change
invariant-loop-change l = record {
  size : length l.broken ≡ length l.self.changes;
  tested : (k : ℕ) (d : Activity) → k < l.change → get_or l.broken k false
      ≡ (get_or l.self.open_yet k false && is_broken l.self.times (get_or l.self.changes k d));
}
