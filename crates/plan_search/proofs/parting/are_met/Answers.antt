use Rattle.plan_num.proofs.Common.{subst, sym, arith}
use Rattle.link_plans.proofs.Common.{links_in, by_number}
use Rattle.plan_search.specs.Parting.{IsMet}
use Rattle.plan_search.proofs.parting.are_met.Goals as goal

pub loop-i-preserved : goal.loop-i-preserved
loop-i-preserved c k below = by_number k c.loop-i.i
    (λ same. subst (IsMet (links_in c.args.trips.now) c.args.potentials.now
    c.args.assignment.now) (sym same) (c.is_met.ensures (search c.if-not-is_met.false)))
    (λ apart. c.loop-i.invariant k (omega (arith, below, apart)))
