-- The sum is that of the lines so far.
use Rattle.plan_num.proofs.Common.{◌≡◌, ◌≤◌, ◌*◌, take, sum_by}
use Rattle.evaluators.specs.CostedLines.{runs_cost}
use Rattle.evaluators.proofs.lines.cost_of_lines.Given as goal

abbrev pub invariant-loop-line : goal.invariant-loop-line
invariant-loop-line l = record {
  told : l.sum ≡ sum_by runs_cost (take l.line-index l.lines);
  few : l.sum ≤ l.line-index * 1000000000000000000000;
}
