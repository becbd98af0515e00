use Rattle.plan_num.proofs.Common.{arith}
use Rattle.link_plans.proofs.Moves.{past_free}
use Rattle.link_plans.proofs.assignment.Assignment.trip_at.Goals as goal

pub returns-else-place-len-clause-value : goal.returns-else-place-len-clause-value
returns-else-place-len-clause-value c =
    past_free c.args.self.now c.args.place c.len.ensures.successors
    (omega (arith, c.if-place-len.false, c.len.ensures.count))
