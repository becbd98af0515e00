-- The sum of the numbers so far.
use Rattle.plan_num.proofs.Common.{◌≡◌, ◌≤◌, ◌*◌, sum, take}
use Rattle.link_plans.proofs.numbers.total.Given as goal

abbrev pub invariant-loop-number : goal.invariant-loop-number
invariant-loop-number l = record {
  value : l.sum ≡ sum (take l.number-index l.numbers);
  small : l.sum ≤ l.number-index * 1000000000000000000;
}
