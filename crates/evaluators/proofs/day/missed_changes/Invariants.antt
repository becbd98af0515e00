-- The count so far and the missed changes that are left are all of them.
use Rattle.std.proofs.Common.{◌≡◌, ◌≤◌, ◌+◌, [], true, drop}
use Rattle.propagation.proofs.Common.{missed_at}
use Rattle.delay_management.specs.InputProblems.{activities_of}
use Rattle.evaluators.proofs.day.missed_changes.Given as goal

abbrev pub invariant-loop-activity : goal.invariant-loop-activity
invariant-loop-activity l = record {
  told : l.missed + missed_at (activities_of true [] (drop l.activity-index l.activities)) l.times
      ≡ missed_at (activities_of true [] l.activities) l.times;
  few : l.missed ≤ l.activity-index;
}
