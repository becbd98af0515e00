-- The changes of the ends so far are tested.
use Rattle.plan_num.proofs.Common.{◌≤◌, ◌-◌, ◌≡◌, length}
use Rattle.delay_trials.specs.OpenChanges.{TestsEnds}
use Rattle.delay_trials.proofs.open_changes.OpenChanges.test_few.Given as goal

abbrev pub invariant-loop-at : goal.invariant-loop-at
invariant-loop-at l = record {
  low : l.first ≤ l.at;
  size : length l.broken ≡ length l.self.changes;
  tests : TestsEnds l.self l.first l.at l.fn.broken l.broken;
}

abbrev pub decreases-loop-at : goal.decreases-loop-at
decreases-loop-at l = length l.self.ends - l.at
