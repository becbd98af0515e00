use Rattle.plan_num.proofs.Common.{◌≡◌, map, take, true}
use Rattle.line_cost_model.specs.DualBounds.{are_within, left_of}
use Rattle.line_cost_model.proofs.summed.SummedRegion.are_within.Given as goal

-- what the multipliers so far leave of the costs of lines, within which they are
abbrev pub invariant-loop-place : goal.invariant-loop-place
invariant-loop-place l =
    (l.left.items ≡ map (left_of (take l.place l.multipliers)) l.self.problem.lines)
    × (are_within l.self.problem l.self.ranges (take l.place l.multipliers) ≡ true)
