-- Valid potentials prove that exactly the tight plans gain the most.
use Rattle.plan_num.proofs.Common.{◌≡◌, ℕ, pos, ◌+◌, ◌<◌, ◌≤◌, ◌≤ℤ◌, nat_lt, List, Option, Some}
use Rattle.plan_num.proofs.Common.{None, unwrap_or, ap, sym, ◌∙◌, arith, ltb-true, ltb-false, ints}
use Rattle.plan_num.proofs.Common.{get_or-eq_default}
use Rattle.link_plans.specs.Plans.{next, plan_gain, IsPlan, IsBest}
use Rattle.link_plans.specs.Links.{Links}
use Rattle.link_plans.proofs.Linking.{some_of}
use Rattle.link_plans.specs.Potentials.{PotentialParts, at, total, AreValid, IsTight, TightAreBest}
use Rattle.link_plans.proofs.TightGains.{AreCovering, AreTight, at_most, then_tight, tight_gains}

-- a number is below another one, or not
pub by_bound : {P : Type 0} (i n : ℕ) → (i < n → P) → (n ≤ i → P) → P
by_bound {P} i n within past = grind (arith, nat_lt, ltb-true, ltb-false)

module _ (links : Links) (certified plan : List (Option ℕ)) (potentials : PotentialParts)
    (valid : AreValid links certified potentials) (is : IsPlan links plan) where
  none_before : (k : ℕ) → k ≡ 0 + k
  none_before k = omega arith

  -- valid potentials cover the links of any plan
  pub covering : AreCovering links.gain 0 plan potentials.u potentials.v
  covering = grind arith

  -- so no plan gains more than all potentials
  pub gain_most : plan_gain links plan ≤ℤ pos (total potentials)
  gain_most = at_most links.gain 0 plan potentials.u potentials.v covering

  -- one that gains as much is tight
  pub gains_all : plan_gain links plan ≡ pos (total potentials) → IsTight links potentials plan
  gains_all all =
      let tight = then_tight links.gain 0 plan potentials.u potentials.v covering all in
      record {
        linked = λ i j e.
            let found = some_of (links.gain i j) (is.follow i j e) in
            found.1 ∙ ap Some (sym (ap (λ gain. unwrap_or gain (pos 0)) found.1)
            ∙ ap (λ k. unwrap_or (links.gain k j) (pos 0)) (none_before i) ∙ tight.linked i j e);
        last = λ i e. last_at tight i e;
        first = tight.first;
      }
    where
      last_at : AreTight links.gain 0 plan potentials.u potentials.v → (i : ℕ) → next plan i ≡ None
          → at potentials.u i ≡ 0
      last_at tight i e = grind (arith, by_bound, get_or-eq_default)

  -- and a tight one gains as much
  pub tight_all : IsTight links potentials plan → plan_gain links plan ≡ pos (total potentials)
  tight_all tight = tight_gains links.gain 0 plan potentials.u potentials.v covering (record {
    linked = λ k j e. grind (arith, unwrap_or, none_before);
    last = λ k h e. tight.last k e;
    first = tight.first;
  })

module _ (links : Links) (certified : List (Option ℕ)) (potentials : PotentialParts)
    (valid : AreValid links certified potentials) (is : IsPlan links certified) where
  -- a plan that gains as much as all potentials gains the most
  all_best : (plan : List (Option ℕ)) → IsPlan links plan
      → plan_gain links plan ≡ pos (total potentials) → IsBest links plan
  all_best plan possible all = grind (arith, ints, gain_most)

  pub certified_best : IsBest links certified
  certified_best = all_best certified is (sym valid.exact)

  pub tight_best : TightAreBest links potentials
  tight_best plan possible = (
    (λ best. gains_all links certified plan potentials valid possible
        (omega (
          arith,
          ints,
          best.most certified is,
          valid.exact,
          gain_most links certified plan potentials valid possible,
        ))),
    (λ tight. all_best plan possible (tight_all links certified plan potentials valid possible tight)),
  )

-- potentials that are valid for one plan that gains the most are so for each
pub valid_for_best : (links : Links) (plan other : List (Option ℕ)) (potentials : PotentialParts)
    → IsBest links plan → IsBest links other → AreValid links plan potentials → AreValid links other potentials
valid_for_best links plan other potentials best also valid = grind (arith, ints)
