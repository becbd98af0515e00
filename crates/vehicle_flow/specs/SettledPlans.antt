-- Inner words: what is known of a chosen plan and of its canonical potentials.
use Rattle.std.specs.Prelude.{ℕ, List, Option}
use Rattle.vehicle_model.specs.Plans.{IsChosen}
use Rattle.vehicle_model.specs.Trips.{TripsParts, AreTrips, links_of}
use Rattle.canonical_potentials.specs.Canonical.{AreCanonical}
use Rattle.link_plans.specs.Potentials.{ArePotentials, AreValid}
use Rattle.canonical_potentials.specs.Rounds.{canonical}

pub record IsSettled (trips : TripsParts) (plan : List (Option ℕ)) : Type 0 where
  pub are : AreTrips trips
  pub chosen : IsChosen trips plan
  pub valid : AreValid (links_of trips) plan (canonical (links_of trips) plan)
  pub least : AreCanonical (links_of trips) plan (canonical (links_of trips) plan)
  pub small : ArePotentials (canonical (links_of trips) plan)
