-- The links between trips are links: there are few trips, and none gains more than a vehicle costs.
use Rattle.plan_num.proofs.Common.{arith, ints}
use Rattle.link_plans.proofs.Common.{AreLinks}
use Rattle.vehicle_model.specs.Trips.{TripsParts, AreTrips, links_of}
use Rattle.vehicle_model.proofs.Following.{links_most, links_within}

pub trips_links : (trips : TripsParts) → AreTrips trips → AreLinks (links_of trips)
trips_links trips are = grind (arith, links_within, links_most, ints)
