use Rattle.plan_num.proofs.Common.{◌≡◌, filter_map, min, take, reduce}
use Rattle.line_cost_model.proofs.LeastLeft.{left_at}
use Rattle.line_cost_model.proofs.pass.least_left.Given as goal

-- the least is that over the lines so far
abbrev pub invariant-loop-line : goal.invariant-loop-line
invariant-loop-line l = l.least ≡ reduce min (filter_map (left_at l.ranges l.left) (take l.line-index l.line-items))
