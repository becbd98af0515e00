use Rattle.plan_num.proofs.Common.{◌≡◌}
use Rattle.line_cost_model.specs.Regions.{empty_edge}
use Rattle.line_cost_model.proofs.EmptyEdges.{first_from}
use Rattle.line_cost_model.proofs.problem.LineProblem.empty_edge.Given as goal

-- the first such edge is the first of those that are left
abbrev pub invariant-loop-edge : goal.invariant-loop-edge
invariant-loop-edge l = empty_edge l.self l.region ≡ first_from l.self l.region l.edge
