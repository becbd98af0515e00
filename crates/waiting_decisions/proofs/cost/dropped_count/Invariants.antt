-- The count is that of the first ones.
use Rattle.plan_num.proofs.Common.{◌≡◌, ◌≤◌, take}
use Rattle.waiting_decisions.specs.Choices.{dropped_count}
use Rattle.waiting_decisions.proofs.cost.dropped_count.Given as goal

abbrev pub invariant-loop-is_kept : goal.invariant-loop-is_kept
invariant-loop-is_kept l = record {
  told : l.dropped ≡ dropped_count (take l.is_kept-index l.kept);
  few : l.dropped ≤ l.is_kept-index;
}
