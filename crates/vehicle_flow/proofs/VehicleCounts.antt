-- Vehicles of a plan, counted by the trips without a next one.
use Rattle.plan_num.proofs.Common.{◌≡◌, ℕ, ◌≤◌, ◌+◌, ◌-◌, List, length, drop, Option, arith}
use Rattle.plan_num.proofs.Common.{drop_all}
use Rattle.vehicle_model.specs.Plans.{starts}
use Rattle.link_plans.proofs.Common.{plan_links, IsPlan, links_from}
use Rattle.vehicle_model.specs.Trips.{TripsParts, links_of}
use Rattle.vehicle_model.proofs.Costs.{starts_and_links}

-- the links before a trip, with those from there on, are those of the plan
pub record AreLinksBefore (plan : List (Option ℕ)) (i links : ℕ) : Type 0 where
  pub count : links + length (links_from i (drop i plan)) ≡ length (plan_links plan)
  pub few : links ≤ i

module _ (trips : TripsParts) (plan : List (Option ℕ)) (i links : ℕ)
    (are : AreLinksBefore plan i links) where
  -- behind the last trip they are all
  pub vehicles_all : IsPlan (links_of trips) plan → length plan ≤ i → (all : ℕ)
      → all ≡ length trips.trips → all - links ≡ length (starts plan)
  vehicles_all is past all counted = grind (arith, links_from, drop_all, starts_and_links)
