-- Plans of least cost gain the same.
use Rattle.plan_num.proofs.Common.{ℕ, List, Option, arith, ints}
use Rattle.link_plans.proofs.Common.{IsBest, IsFirstBest, PotentialParts, AreValid}
use Rattle.vehicle_model.specs.Plans.{IsCheapest, IsChosen}
use Rattle.vehicle_model.specs.Trips.{TripsParts, links_of}
use Rattle.vehicle_model.proofs.Costs.{cost_by_gain}

-- so potentials that are valid for one are valid for the other
pub valid_for : (trips : TripsParts) (plan other : List (Option ℕ)) (potentials : PotentialParts)
    → IsCheapest trips plan → IsCheapest trips other → AreValid (links_of trips) plan potentials
    → AreValid (links_of trips) other potentials
valid_for trips plan other potentials cheapest also valid = grind (arith, ints, cost_by_gain)

-- a plan that gains the most is cheapest, and the other way round
pub cheapest_by_gain : (trips : TripsParts) (plan : List (Option ℕ)) → IsBest (links_of trips) plan
    → IsCheapest trips plan
cheapest_by_gain trips plan best = grind (arith, ints, cost_by_gain)

best_by_cost : (trips : TripsParts) (plan : List (Option ℕ)) → IsCheapest trips plan
    → IsBest (links_of trips) plan
best_by_cost trips plan cheapest = grind (arith, ints, cost_by_gain)

-- so the first of those that gain the most is the chosen one
pub chosen_by_gain : (trips : TripsParts) (plan : List (Option ℕ)) → IsFirstBest (links_of trips) plan
    → IsChosen trips plan
chosen_by_gain trips plan first = grind (arith, cheapest_by_gain, best_by_cost)
