-- The chosen plan, from the first of the plans that gain the most over the links that are worth
-- something.
use Rattle.plan_num.proofs.Common.{arith, ◌≡◌, ℕ, List, Option, subst}
use Rattle.link_plans.specs.declared.link_table.Link.{Link}
use Rattle.link_plans.specs.declared.solved.Solved.{Solved}
use Rattle.link_plans.proofs.Common.{links_in, worthy, IsPlan, IsFirstBest, AreValid}
use Rattle.assignment.proofs.Worthwhile.{first_up, plan_down, valid_down}
use Rattle.vehicle_model.specs.Plans.{IsCheapest, IsChosen}
use Rattle.vehicle_model.specs.Trips.{TripsParts, links_of}
use Rattle.vehicle_flow.proofs.SameGains.{chosen_by_gain, valid_for}

module _ (trips : TripsParts) (rows : List (List Link)) (solved : Solved) (plan : List (Option ℕ))
    (same : links_in rows ≡ worthy (links_of trips)) (possible : IsPlan (links_of trips)
    solved.plan)
    (valid : AreValid (links_of trips) solved.plan solved.potentials) where
  pub chosen : IsFirstBest (links_in rows) plan → IsChosen trips plan
  chosen first = chosen_by_gain trips plan
      (first_up (links_of trips) solved.plan plan solved.potentials
      (plan_down (links_of trips) solved.plan solved.potentials possible valid)
      (valid_down (links_of trips) solved.plan solved.potentials possible valid)
      (subst (λ links. IsFirstBest links plan) same first))

  -- potentials that are valid for one cheapest plan are valid for it
  pub still_valid : IsCheapest trips solved.plan → IsFirstBest (links_in rows) plan
      → AreValid (links_of trips) plan solved.potentials
  still_valid cheapest first = grind (arith, valid_for, chosen)
