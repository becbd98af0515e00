use Rattle.plan_num.proofs.Common.{ap, sym, ◌∙◌, subst}
use Rattle.link_plans.proofs.Common.{IsPlan, AreValid}
use Rattle.canonical_potentials.specs.Rounds.{canonical}
use Rattle.assignment.proofs.Worthwhile.{canonical_same, plan_down, valid_down, valid_up}
use Rattle.vehicle_model.specs.Trips.{links_of}
use Rattle.vehicle_model.proofs.TripLinks.{trips_links}
use Rattle.vehicle_flow.proofs.ChosenIsOne.{chosen_is}
use Rattle.vehicle_flow.proofs.ChosenByLinks.{chosen, still_valid}
use Rattle.vehicle_flow.proofs.made.chosen_solution.Goals as goal

pub first_best_plan-requires-clause-plan : goal.first_best_plan-requires-clause-plan
first_best_plan-requires-clause-plan c =
    subst (λ links. IsPlan links c.in_ok-solved.solved.plan) (sym c.in_ok-links.ensures.links)
    (plan_down (links_of c.args.trips.now) c.in_ok-solved.solved.plan
    c.in_ok-solved.solved.potentials
    c.in_ok-solved.ensures.plan c.in_ok-solved.ensures.valid)

pub first_best_plan-requires-clause-valid : goal.first_best_plan-requires-clause-valid
first_best_plan-requires-clause-valid c =
    subst (λ links. AreValid links c.in_ok-solved.solved.plan c.in_ok-solved.solved.potentials)
    (sym c.in_ok-links.ensures.links)
    (valid_down (links_of c.args.trips.now) c.in_ok-solved.solved.plan
    c.in_ok-solved.solved.potentials
    c.in_ok-solved.ensures.plan c.in_ok-solved.ensures.valid)

pub canonical_potentials-requires-clause-plan : goal.canonical_potentials-requires-clause-plan
canonical_potentials-requires-clause-plan c = c.in_ok-plan.ensures.best.possible

pub canonical_potentials-requires-clause-valid : goal.canonical_potentials-requires-clause-valid
canonical_potentials-requires-clause-valid c = subst
    (λ links. AreValid links c.in_ok-plan.plan c.in_ok-solved.solved.potentials)
    (sym c.in_ok-links.ensures.links)
    (valid_down (links_of c.args.trips.now) c.in_ok-plan.plan c.in_ok-solved.solved.potentials
    (chosen c.args.trips.now c.in_ok-links.links c.in_ok-solved.solved c.in_ok-plan.plan
    c.in_ok-links.ensures.links
    c.in_ok-solved.ensures.plan c.in_ok-solved.ensures.valid c.in_ok-plan.ensures).cheapest.possible
    (still_valid c.args.trips.now c.in_ok-links.links c.in_ok-solved.solved c.in_ok-plan.plan
    c.in_ok-links.ensures.links c.in_ok-solved.ensures.plan c.in_ok-solved.ensures.valid
    c.in_ok-solved.ensures.cheapest c.in_ok-plan.ensures))

pub returns-clause-possible : goal.returns-clause-possible
returns-clause-possible c =
    (chosen c.args.trips.now c.in_ok-links.links c.in_ok-solved.solved c.in_ok-plan.plan
    c.in_ok-links.ensures.links
    c.in_ok-solved.ensures.plan c.in_ok-solved.ensures.valid c.in_ok-plan.ensures).cheapest.possible

pub returns-clause-valid : goal.returns-clause-valid
returns-clause-valid c =
    valid_up (links_of c.args.trips.now) c.in_ok-plan.plan c.in_ok-potentials.potentials
    (subst (λ links. IsPlan links c.in_ok-plan.plan) c.in_ok-links.ensures.links
    c.in_ok-plan.ensures.best.possible)
    (subst (λ links. AreValid links c.in_ok-plan.plan c.in_ok-potentials.potentials)
    c.in_ok-links.ensures.links
    c.in_ok-potentials.ensures.valid)

pub returns-clause-plan : goal.returns-clause-plan
returns-clause-plan c = chosen_is c.args.trips.now c.in_ok-plan.plan
    (chosen c.args.trips.now c.in_ok-links.links c.in_ok-solved.solved c.in_ok-plan.plan
    c.in_ok-links.ensures.links
    c.in_ok-solved.ensures.plan c.in_ok-solved.ensures.valid c.in_ok-plan.ensures)

pub returns-clause-potentials : goal.returns-clause-potentials
returns-clause-potentials c = c.in_ok-potentials.ensures.made
    ∙ ap (λ links. canonical links c.in_ok-plan.plan) c.in_ok-links.ensures.links
    ∙ canonical_same (links_of c.args.trips.now) (trips_links c.args.trips.now c.links_of_trips.ensures.trips)
    c.in_ok-plan.plan c.in_ok-solved.solved.potentials
    (chosen c.args.trips.now c.in_ok-links.links c.in_ok-solved.solved c.in_ok-plan.plan
    c.in_ok-links.ensures.links
    c.in_ok-solved.ensures.plan c.in_ok-solved.ensures.valid c.in_ok-plan.ensures).cheapest.possible
    (still_valid c.args.trips.now c.in_ok-links.links c.in_ok-solved.solved c.in_ok-plan.plan
    c.in_ok-links.ensures.links c.in_ok-solved.ensures.plan c.in_ok-solved.ensures.valid
    c.in_ok-solved.ensures.cheapest c.in_ok-plan.ensures)
