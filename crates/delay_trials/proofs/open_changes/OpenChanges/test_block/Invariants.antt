-- The changes of the ends so far are tested, and the least room is that of them.
use Rattle.plan_num.proofs.Common.{◌≤◌, ◌<◌, ℕ, get_or}
use Rattle.delay_trials.specs.declared.ends.ChangeEnd.{ChangeEnd}
use Rattle.propagation.specs.declared.step.Activity.{Activity}
use Rattle.delay_trials.specs.OpenChanges.{TestsEnds}
use Rattle.delay_trials.specs.Stillness.{room_of}
use Rattle.delay_trials.proofs.open_changes.OpenChanges.test_block.Given as goal

abbrev pub invariant-loop-place : goal.invariant-loop-place
invariant-loop-place l = record {
  tests : TestsEnds l.self l.at l.place l.fn.broken l.broken;
  room : (j : ℕ) (e : ChangeEnd) (d : Activity) → l.at ≤ j → j < l.place
      → l.least ≤ room_of l.self.times (get_or l.self.changes (get_or l.self.ends j e).change d);
}
