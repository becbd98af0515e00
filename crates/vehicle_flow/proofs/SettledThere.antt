-- Over any trips the chosen plan is there, and its canonical potentials are valid.
use Rattle.plan_num.proofs.Common.{◌≡◌, ℕ, ◌&&◌, nat_eq, Bool, true, List, length, find, Option}
use Rattle.plan_num.proofs.Common.{Some, None, refl, subst, arith, eqb-true, eq-eqb}
use Rattle.vehicle_model.specs.Plans.{all_lists, chosen_plan, is_apart, plan_cost, IsCheapest, IsChosen}
use Rattle.vehicle_model.specs.Trips.{TripsParts, AreTrips, links_of}
use Rattle.vehicle_model.proofs.TripLinks.{trips_links}
use Rattle.flow_potentials.proofs.CheapestPlans.{certified_cheapest}
use Rattle.canonical_potentials.proofs.Rounds.{canonical_is, canonical_small, canonical_valid}
use Rattle.vehicle_flow.specs.SettledPlans.{IsSettled}
use Rattle.vehicle_flow.proofs.ChosenIsOne.{all_rising, apart_where}
use Rattle.vehicle_flow.proofs.ChosenIsOne.{chosen_is, lists, plan_where, where_plan}
use Rattle.link_plans.proofs.Common.{HasValid, valid_there}
use Rattle.vehicle_flow.proofs.FirstFound.{found_holds, found_no_later, none_passes}
use Rattle.vehicle_flow.proofs.FirstOfLists.{AreChoices, all_choices}
use Rattle.vehicle_flow.proofs.SameGains.{valid_for}
use Rattle.plan_num.proofs.Tests.{both_true, first_true, second_true}

module _ (trips : TripsParts) (are : AreTrips trips) where
  abbrev n : ℕ
  n = length trips.trips

  abbrev certified : HasValid (links_of trips)
  certified = valid_there (links_of trips) (trips_links trips are)

  cheapest : IsCheapest trips certified.plan
  cheapest = certified_cheapest trips certified.plan certified.potentials certified.valid certified.possible

  abbrev passes : List (Option ℕ) → Bool
  passes other = is_apart other && nat_eq (plan_cost trips other) (plan_cost trips certified.plan)

  passes_where : (other : List (Option ℕ)) → IsCheapest trips other → passes other ≡ true
  passes_where other also = grind (arith, both_true, apart_where, eq-eqb, cheapest)

  first_chosen : (plan : List (Option ℕ)) → find passes (all_lists (lists trips 0 n)) ≡ Some plan
      → IsChosen trips plan
  first_chosen plan found =
      grind (
        arith,
        found_holds,
        AreChoices,
        lists,
        all_choices,
        eqb-true,
        second_true,
        cheapest,
        plan_where,
        first_true,
        found_no_later,
        all_rising,
        where_plan,
        passes_where,
      )

  pub chosen_there : IsChosen trips (chosen_plan trips)
  chosen_there = by (find passes (all_lists (lists trips 0 n))) refl
    where
      by : (found : Option (List (Option ℕ))) → find passes (all_lists (lists trips 0 n)) ≡ found
          → IsChosen trips (chosen_plan trips)
      by None e = absurd (none_passes (lists trips 0 n) passes e certified.plan
          (where_plan trips certified.plan certified.possible) (passes_where certified.plan cheapest))
      by (Some plan) e =
          let chosen = first_chosen plan e in
          subst (IsChosen trips) (chosen_is trips plan chosen) chosen

  pub settled_there : IsSettled trips (chosen_plan trips)
  settled_there =
      let possible = chosen_there.cheapest.possible in
      let valid = valid_for trips certified.plan (chosen_plan trips) certified.potentials cheapest
      chosen_there.cheapest certified.valid in
      record {
        are = are;
        chosen = chosen_there;
        valid = canonical_valid (links_of trips) (trips_links trips are)
            (chosen_plan trips) certified.potentials possible valid;
        least = canonical_is (links_of trips) (trips_links trips are) (chosen_plan trips) certified.potentials
            possible valid;
        small = canonical_small (links_of trips) (trips_links trips are)
            (chosen_plan trips) certified.potentials possible valid;
      }
