use Rattle.plan_num.proofs.Common.{◌≡◌, ◌≤◌, ◌*◌, get_or, sum_by, take}
use Rattle.line_cost_model.proofs.sums.frequency_on.Given as goal

-- the sum is that over the lines so far, and each of them adds less than 2^32
abbrev pub invariant-loop-line : goal.invariant-loop-line
invariant-loop-line l =
    (l.sum ≡ sum_by (λ line. get_or l.frequencies line 0) (take l.line-index l.line-items))
    × (l.sum ≤ l.line-index * 4294967296)
