use Rattle.plan_num.proofs.Common.{◌≡◌, ◌≤◌, ◌*◌, sum_by, take, zip}
use Rattle.line_cost_model.proofs.sums.cost_of.Given as goal

-- the sum is that over the lines so far, and each of them adds less than 10^18 times 2^32
abbrev pub invariant-loop-line : goal.invariant-loop-line
invariant-loop-line l =
    (l.sum ≡ sum_by (λ at. at.0.cost * at.1) (take l.line (zip l.problem.lines l.frequencies)))
    × (l.sum ≤ l.line * 4294967296000000000000000000)
