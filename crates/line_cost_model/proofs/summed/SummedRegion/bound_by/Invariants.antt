use Rattle.plan_num.proofs.Common.{◌≡◌, ◌+◌, ◌*◌, ◌≤◌, length, take}
use Rattle.line_cost_model.specs.DualBounds.{bound_by}
use Rattle.line_cost_model.proofs.summed.SummedRegion.bound_by.Given as goal

-- the value is what the multipliers so far prove, and each of them adds less than 10^18 times 2^32
abbrev pub invariant-loop-place : goal.invariant-loop-place
invariant-loop-place l =
    (l.value ≡ bound_by l.self.problem l.self.ranges (take l.place l.multipliers))
    × (l.place ≤ length l.self.problem.edges)
    × (l.value ≤ 5000000000000000000000000000000000000 + l.place * 4294967296000000000000000000)
