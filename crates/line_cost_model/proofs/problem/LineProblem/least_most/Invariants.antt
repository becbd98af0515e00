-- The least of the maximal frequencies of the edges so far.
use Rattle.plan_num.proofs.Common.{◌≡◌, filter_map, min, take, reduce}
use Rattle.line_cost_model.specs.Regions.{most_on}
use Rattle.line_cost_model.proofs.problem.LineProblem.least_most.Given as goal

abbrev pub invariant-loop-edge : goal.invariant-loop-edge
invariant-loop-edge l = l.least ≡ reduce min (filter_map (most_on l.self.edges) (take l.edge-index l.edges))
