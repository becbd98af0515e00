use Rattle.plan_num.proofs.Common.{◌≡◌, drop, list_all, enumerate_from}
use Rattle.line_cost_model.specs.Concepts.{is_feasible, keeps_bounds}
use Rattle.line_cost_model.proofs.problem.LineProblem.is_feasible.Given as goal

-- the concept is feasible where it keeps the bounds of the edges that are left
abbrev pub invariant-loop-edge : goal.invariant-loop-edge
invariant-loop-edge l =
    is_feasible l.self l.f ≡ list_all (keeps_bounds l.self.lines l.f) (enumerate_from l.edge (drop l.edge l.self.edges))
