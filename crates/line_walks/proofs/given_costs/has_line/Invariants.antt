-- None of the lines so far has the id.
use Rattle.plan_num.proofs.Common.{◌≡◌, false, take, list_any, int_eq}
use Rattle.line_walks.proofs.given_costs.has_line.Given as goal

abbrev pub invariant-loop-line : goal.invariant-loop-line
invariant-loop-line l = list_any (λ line. int_eq l.id line.id) (take l.line l.pool) ≡ false
