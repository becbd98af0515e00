use Rattle.plan_num.proofs.Common.{sym, subst}
use Rattle.link_plans.proofs.Common.{certified_best, IsPlan, links_in, AreValid}
use Rattle.plan_search.proofs.TakenIn.{none_taken_in, all_plan, all_valid}
use Rattle.plan_search.proofs.cheapest.best_plan.Goals as goal

pub bid_all-requires : goal.bid_all-requires
bid_all-requires c = none_taken_in (links_in c.args.trips.now) c.len-count.result
    c.in_ok-potentials.potentials
    c.in_ok-assignment.assignment c.len-count.ensures.count c.in_ok-assignment.ensures
    c.in_ok-potentials.ensures

pub returns-clause-plan : goal.returns-clause-plan
returns-clause-plan c = subst (IsPlan (links_in c.args.trips.now)) (sym c.in_ok-plan.ensures)
    (all_plan (links_in c.args.trips.now) c.len-count.ensures.links
    c.in_ok-potentials-2.potentials c.into_parts-assignment.result.0
    c.in_ok-potentials-2.ensures.taken c.in_ok-potentials-2.ensures.covered)

pub returns-clause-valid : goal.returns-clause-valid
returns-clause-valid c = subst
    (λ plan. AreValid (links_in c.args.trips.now) plan c.in_ok-potentials-2.potentials)
    (sym c.in_ok-plan.ensures)
    (all_valid (links_in c.args.trips.now) c.len-count.ensures.links
    c.in_ok-potentials-2.potentials c.into_parts-assignment.result.0
    c.in_ok-potentials-2.ensures.taken c.in_ok-potentials-2.ensures.covered)

pub returns-clause-best : goal.returns-clause-best
returns-clause-best c = certified_best (links_in c.args.trips.now) c.in_ok-plan.plan
    c.in_ok-potentials-2.potentials (returns-clause-valid c) (returns-clause-plan c)
