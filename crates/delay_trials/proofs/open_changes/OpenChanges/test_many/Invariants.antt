-- The changes of the ends so far are tested, and what the limits say is.
use Rattle.plan_num.proofs.Common.{◌≤◌, ◌-◌, ◌≡◌, length}
use Rattle.delay_trials.specs.OpenChanges.{AreStillTested, HasLimits, TestsEnds}
use Rattle.delay_trials.proofs.open_changes.OpenChanges.test_many.Given as goal

abbrev pub invariant-loop-broken : goal.invariant-loop-broken
invariant-loop-broken l = record {
  low : l.first ≤ l.at;
  within : l.at ≤ length l.self.ends;
  size : length l.broken ≡ length l.self.changes;
  tests : TestsEnds l.self l.first l.at l.fn.broken l.broken;
  limits : HasLimits l.self l.shifted l.until.items;
  still : AreStillTested l.self l.shifted l.until.items l.broken;
}

abbrev pub decreases-loop-broken : goal.decreases-loop-broken
decreases-loop-broken l = length l.self.ends - l.at
