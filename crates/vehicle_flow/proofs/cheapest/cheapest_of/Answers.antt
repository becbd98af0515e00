use Rattle.plan_num.proofs.Common.{subst}
use Rattle.link_plans.proofs.Common.{IsPlan, AreValid}
use Rattle.assignment.proofs.Worthwhile.{plan_up, valid_up}
use Rattle.vehicle_model.specs.Trips.{links_of}
use Rattle.flow_potentials.proofs.CheapestPlans.{certified_cheapest}
use Rattle.vehicle_flow.proofs.cheapest.cheapest_of.Goals as goal

pub returns-clause-plan : goal.returns-clause-plan
returns-clause-plan c = plan_up (links_of c.args.trips.now) c.in_ok-solved.solved.plan
    (subst (λ links. IsPlan links c.in_ok-solved.solved.plan) c.requires
    c.in_ok-solved.ensures.plan)

pub returns-clause-valid : goal.returns-clause-valid
returns-clause-valid c =
    valid_up (links_of c.args.trips.now) c.in_ok-solved.solved.plan c.in_ok-solved.solved.potentials
    (subst (λ links. IsPlan links c.in_ok-solved.solved.plan) c.requires
    c.in_ok-solved.ensures.plan)
    (subst (λ links. AreValid links c.in_ok-solved.solved.plan c.in_ok-solved.solved.potentials)
    c.requires
    c.in_ok-solved.ensures.valid)

pub returns-clause-cheapest : goal.returns-clause-cheapest
returns-clause-cheapest c = certified_cheapest c.args.trips.now c.in_ok-solved.solved.plan
    c.in_ok-solved.solved.potentials (returns-clause-valid c) (returns-clause-plan c)
