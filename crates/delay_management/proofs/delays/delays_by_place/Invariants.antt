-- The delays are those of the rows that were taken.
use Rattle.plan_num.proofs.Common.{◌≡◌, ◌≤◌, drop, length, map, range_with_len}
use Rattle.delay_management.specs.InputProblems.{delay_of}
use Rattle.delay_management.proofs.delays.delays_by_place.Given as goal

abbrev pub invariant-loop-left : goal.invariant-loop-left
invariant-loop-left l = record {
  some : l.left ≤ length l.rows;
  told : l.delays.items ≡ map (delay_of (drop l.left l.rows)) (range_with_len 1 l.count);
}

abbrev pub decreases-loop-left : goal.decreases-loop-left
decreases-loop-left l = l.left
