use Rattle.plan_num.proofs.Common.{◌≡◌, map, take}
use Rattle.line_cost_model.proofs.pass.renew_costs.Given as goal

-- the costs are those of the lines so far
abbrev pub invariant-loop-line : goal.invariant-loop-line
invariant-loop-line l = l.left.items ≡ take l.line (map (λ line. line.cost) l.problem.lines)
