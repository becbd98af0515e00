use Rattle.plan_num.proofs.Common.{◌≡◌, drop}
use Rattle.line_cost_model.proofs.Paying.{have_left}
use Rattle.line_cost_model.proofs.pass.can_pay.Given as goal

-- all open lines have so much left where those that are left have
abbrev pub invariant-loop-line : goal.invariant-loop-line
invariant-loop-line l =
    have_left l.ranges l.left l.amount l.line-items
    ≡ have_left l.ranges l.left l.amount (drop l.line-index l.line-items)
