use Rattle.plan_num.proofs.Common.{ap, sym, ◌∙◌, subst}
use Rattle.canonical_potentials.specs.Canonical.{AreCanonical}
use Rattle.link_plans.proofs.Common.{IsPlan, AreValid}
use Rattle.canonical_potentials.specs.Rounds.{canonical}
use Rattle.canonical_potentials.proofs.Rounds.{canonical_is}
use Rattle.assignment.proofs.Worthwhile.{canonical_same, plan_down, valid_down, valid_up}
use Rattle.vehicle_model.specs.Trips.{links_of}
use Rattle.vehicle_model.proofs.TripLinks.{trips_links}
use Rattle.flow_potentials.proofs.canonical.potentials.Goals as goal

pub canonical_potentials-requires-clause-plan : goal.canonical_potentials-requires-clause-plan
canonical_potentials-requires-clause-plan c =
    subst (λ links. IsPlan links c.args.plan.now) (sym c.in_ok-table.ensures.links)
    (plan_down (links_of c.args.trips.now) c.args.plan.now c.args.valid.now c.requires.plan
    c.requires.valid)

pub canonical_potentials-requires-clause-valid : goal.canonical_potentials-requires-clause-valid
canonical_potentials-requires-clause-valid c =
    subst (λ links. AreValid links c.args.plan.now c.args.valid.now) (sym c.in_ok-table.ensures.links)
    (valid_down (links_of c.args.trips.now) c.args.plan.now c.args.valid.now c.requires.plan
    c.requires.valid)

pub returns-clause-made : goal.returns-clause-made
returns-clause-made c = c.in_ok-made.ensures.made
    ∙ ap (λ links. canonical links c.args.plan.now) c.in_ok-table.ensures.links
    ∙ canonical_same (links_of c.args.trips.now) (trips_links c.args.trips.now c.links_of_trips.ensures.trips)
    c.args.plan.now c.args.valid.now c.requires.plan c.requires.valid

pub returns-clause-least : goal.returns-clause-least
returns-clause-least c = subst (AreCanonical (links_of c.args.trips.now) c.args.plan.now)
    (sym (returns-clause-made c))
    (canonical_is (links_of c.args.trips.now) (trips_links c.args.trips.now c.links_of_trips.ensures.trips)
    c.args.plan.now c.args.valid.now c.requires.plan c.requires.valid)

pub returns-clause-valid : goal.returns-clause-valid
returns-clause-valid c =
    valid_up (links_of c.args.trips.now) c.args.plan.now c.in_ok-made.made
    (plan_down (links_of c.args.trips.now) c.args.plan.now c.args.valid.now c.requires.plan
    c.requires.valid)
    (subst (λ links. AreValid links c.args.plan.now c.in_ok-made.made) c.in_ok-table.ensures.links
    c.in_ok-made.ensures.valid)
