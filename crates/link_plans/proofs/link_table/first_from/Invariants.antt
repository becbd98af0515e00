-- What is before the lower end leads to trips before the one, and what is from the upper end on
-- does not.
use Rattle.plan_num.proofs.Common.{◌≤◌, ◌-◌, length}
use Rattle.link_plans.specs.LinkRows.{AreBefore, AreFrom}
use Rattle.link_plans.proofs.link_table.first_from.Given as goal

abbrev pub invariant-loop-low : goal.invariant-loop-low
invariant-loop-low l = record {
  ordered : l.low ≤ l.high;
  inside : l.high ≤ length l.row;
  before : AreBefore l.row l.to l.low;
  after : AreFrom l.row l.to l.high;
}

abbrev pub decreases-loop-low : goal.decreases-loop-low
decreases-loop-low l = l.high - l.low
