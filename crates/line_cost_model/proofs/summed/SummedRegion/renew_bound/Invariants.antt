use Rattle.plan_num.proofs.Common.{◌≤◌, ◌-◌, length}
use Rattle.line_cost_model.specs.Passes.{IsPass}
use Rattle.line_cost_model.proofs.summed.SummedRegion.renew_bound.Given as goal

-- what is known before the edge
abbrev pub invariant-loop-edge : goal.invariant-loop-edge
invariant-loop-edge l = record {
  pass : IsPass l.self.problem l.self.ranges l.bound.multipliers l.bound.left.items l.value l.from;
  within : l.from ≤ length l.self.problem.edges;
}

abbrev pub decreases-loop-edge : goal.decreases-loop-edge
decreases-loop-edge l = length l.self.problem.edges - l.from
