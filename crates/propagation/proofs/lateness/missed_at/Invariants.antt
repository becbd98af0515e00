-- The count is that of the changes so far.
use Rattle.plan_num.proofs.Common.{◌≡◌, ◌≤◌, filter, length, take}
use Rattle.propagation.specs.Lateness.{is_missed}
use Rattle.propagation.proofs.lateness.missed_at.Given as goal

abbrev pub invariant-loop-change : goal.invariant-loop-change
invariant-loop-change l = record {
  told : l.missed ≡ length (filter (is_missed l.times) (take l.change-index l.changes));
  few : l.missed ≤ l.change-index;
}
