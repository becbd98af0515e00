-- Valid potentials prove that exactly the tight plans are cheapest: a plan costs what all trips
-- cost alone, less what it gains.
use Rattle.plan_num.proofs.Common.{◌≡◌, ℕ, pos, List, Option, sym, arith, ints}
use Rattle.link_plans.proofs.Common.{plan_gain, IsPlan, PotentialParts, total, AreValid, gain_most}
use Rattle.link_plans.proofs.Common.{gains_all, tight_all}
use Rattle.vehicle_model.specs.Plans.{IsCheapest}
use Rattle.vehicle_model.specs.Trips.{TripsParts, links_of}
use Rattle.vehicle_model.proofs.Costs.{cost_by_gain}
use Rattle.flow_potentials.specs.PotentialFaults.{TightAreCheapest}

module _ (trips : TripsParts) (certified : List (Option ℕ)) (potentials : PotentialParts) (valid :
    AreValid (links_of trips) certified potentials) (is : IsPlan (links_of trips) certified) where
  -- a plan that gains as much as all potentials is cheapest
  all_cheapest : (plan : List (Option ℕ)) → IsPlan (links_of trips) plan
      → plan_gain (links_of trips) plan ≡ pos (total potentials) → IsCheapest trips plan
  all_cheapest plan possible all = record {
    possible = possible;
    least = λ other fits. omega (
      arith,
      ints,
      all,
      gain_most (links_of trips) certified other potentials valid fits,
      cost_by_gain trips plan possible,
      cost_by_gain trips other fits,
    );
  }

  pub certified_cheapest : IsCheapest trips certified
  certified_cheapest = all_cheapest certified is (sym valid.exact)

  pub tight_cheapest : TightAreCheapest trips potentials
  tight_cheapest plan possible = (
    (λ cheapest. gains_all (links_of trips) certified plan potentials valid possible
        (omega (
          arith,
          ints,
          cheapest.least certified is,
          valid.exact,
          gain_most (links_of trips) certified plan potentials valid possible,
          cost_by_gain trips plan possible,
          cost_by_gain trips certified is,
        ))),
    (λ tight. all_cheapest plan possible (tight_all (links_of trips) certified plan potentials
        valid possible tight)),
  )
