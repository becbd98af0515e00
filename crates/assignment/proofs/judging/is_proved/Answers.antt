use Rattle.plan_num.proofs.Common.{subst, arith}
use Rattle.link_plans.proofs.Common.{links_in}
use Rattle.plan_search.specs.Parting.{AreMet}
use Rattle.plan_search.proofs.Judged.{met_best, met_valid}
use Rattle.assignment.proofs.judging.is_proved.Goals as goal

pub returns-clause-valid : goal.returns-clause-valid
returns-clause-valid c so =
    met_valid (links_in c.args.links.now) c.len-2.ensures.links c.args.plan.now
    c.args.potentials.now
    c.len.ensures.successors
    (omega (arith, c.if-len.false, c.len.ensures.count, c.len-2.ensures.count))
    (subst (AreMet (links_in c.args.links.now) c.args.potentials.now) c.in_ok-assignment.ensures
    (c.are_met.ensures so))

pub returns-clause-best : goal.returns-clause-best
returns-clause-best c so =
    met_best (links_in c.args.links.now) c.len-2.ensures.links c.args.plan.now c.args.potentials.now
    c.len.ensures.successors
    (omega (arith, c.if-len.false, c.len.ensures.count, c.len-2.ensures.count))
    (subst (AreMet (links_in c.args.links.now) c.args.potentials.now) c.in_ok-assignment.ensures
    (c.are_met.ensures so))
