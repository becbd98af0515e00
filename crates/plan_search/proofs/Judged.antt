-- Potentials that meet a plan from any hand are valid for it.
use Rattle.plan_num.proofs.Common.{◌≡◌, ℕ, ℤ, pos, negsuc, ◌<◌, ◌≤◌, ◌+◌, ◌≤ℤ◌, is_some, List}
use Rattle.plan_num.proofs.Common.{length, Option, Some, None, IfSome, MatchOption, arith}
use Rattle.plan_num.proofs.Common.{get_or-eq_default, ints, none-some}
use Rattle.link_plans.proofs.Common.{Links, AreLinks, worth, next, AreSuccessors, IsBest, IsPlan}
use Rattle.link_plans.proofs.Common.{PotentialParts, at, AreValid, IsTight, by_bound}
use Rattle.link_plans.proofs.Common.{certified_best, tight_valid}
use Rattle.plan_search.specs.Parting.{AreMet}

abbrev no_next : Option ℕ
no_next = None

module _ (links : Links) (sound : AreLinks links) (plan : List (Option ℕ)) (potentials :
    PotentialParts)
    (are : AreSuccessors plan) (each : length plan ≡ links.count) (met : AreMet links potentials
    plan) where
  inside : (i j : ℕ) → next plan i ≡ Some j → i < links.count
  inside i j e = grind (arith, by_bound, none-some, get_or-eq_default)

  exact : (i : ℕ) (it : Option ℕ) → next plan i ≡ it → i < links.count
      → MatchOption it (at potentials.u i ≡ 0)
      (λ j. links.gain i j ≡ Some (pos (at potentials.u i + at potentials.v j)))
  exact i it e within = grind arith

  tight : IsTight links potentials plan
  tight = grind (arith, exact, inside, by_bound, get_or-eq_default)

  pub met_plan : IsPlan links plan
  met_plan = grind (arith, is_some, tight)

  covered_by : (it : Option ℤ) (most : ℕ) → IfSome (worth it) (λ gain. gain ≤ most)
      → IfSome it (λ gain. gain ≤ℤ pos most)
  covered_by None most low = tt
  covered_by (Some (pos gain)) most low = omega (arith, ints, low)
  covered_by (Some (negsuc less)) most low = omega (arith, ints)

  covered : (i j : ℕ) → IfSome (links.gain i j) (λ gain. gain ≤ℤ pos (at potentials.u i + at
      potentials.v j))
  covered i j = grind (arith, by_bound, covered_by, is_some)

  pub met_valid : AreValid links plan potentials
  met_valid = tight_valid links plan potentials met.over covered met_plan tight

  pub met_best : IsBest links plan
  met_best = certified_best links plan potentials met_valid met_plan
