-- One trip more is taken into a plan: how a tree begins, and what is left where a place was found.
use Rattle.plan_num.proofs.Common.{◌≡◌, ◌≢◌, ℕ, zero, suc, pos, ◌<◌, ◌≤◌, ◌≤ℤ◌, ◌+◌, ◌-◌, is_some}
use Rattle.plan_num.proofs.Common.{true, List, [], length, slice_set, replicate, Option, None}
use Rattle.plan_num.proofs.Common.{IfSome, refl, ap, sym, ◌∙◌, subst, arith, get_or-set_other}
use Rattle.plan_num.proofs.Common.{get_or-eq_default, ints, length-set, length-replicate, none-some}
use Rattle.plan_num.proofs.Common.{same_Some}
use Rattle.link_plans.proofs.Common.{next, IsPlan, Links, AreLinks, links_in, by_number, none_next}
use Rattle.link_plans.proofs.Common.{PotentialParts, at, AreOver, AreValid, by_bound, Covers}
use Rattle.link_plans.proofs.Common.{tight_valid}
use Rattle.plan_search.specs.declared.near.Near.{Near}
use Rattle.plan_search.specs.Claims.{ClaimsParts, claim_at}
use Rattle.plan_search.specs.Growing.{looking, is_placed, StillCovers, IsTaken}
use Rattle.plan_search.specs.Growing.{IsGrowing}
use Rattle.plan_search.specs.Trees.{PlanParts, TakesIn}
use Rattle.plan_search.specs.Searches.{IsTightBut, IsHandedOn}
use Rattle.plan_search.proofs.ClaimLists.{none_at}
use Rattle.plan_search.proofs.ShiftedTrees.{gain_of_some, some_gain, placed_next, placed_is}

abbrev pub no_near : Option Near
no_near = None

abbrev no_next : Option ℕ
no_next = None

-- no claim on so many places
abbrev no_claims_on : ℕ → ClaimsParts
no_claims_on places = record { at = replicate places None; order = [] }

-- ---- the beginning

module _ (links : Links) (potentials : PotentialParts) (plan : List (Option ℕ)) (trip : ℕ)
    (is : IsTaken links potentials plan) (waits : next plan trip ≡ None) (within : trip < links.count) (most : ℕ)
    (now : PotentialParts)
    (raised : now ≡ record { u = slice_set potentials.u trip most; v = potentials.v })
    (covers : Covers links now trip) where
  u_other : (i : ℕ) → i ≢ trip → at now.u i ≡ at potentials.u i
  u_other i apart = ap (λ p. at p.u i) raised ∙ get_or-set_other potentials.u trip i most 0 apart

  v_same : (j : ℕ) → at now.v j ≡ at potentials.v j
  v_same j = ap (λ p. at p.v j) raised

  over_now : AreOver links.count now
  over_now = grind (arith, length-set)

  -- the trip had none
  u_no_less : (i : ℕ) → at potentials.u i ≤ at now.u i
  u_no_less i = grind (arith, by_number, u_other)

  pub kept_now : StillCovers links potentials now
  kept_now i was j = grind (arith, u_no_less, v_same)

  tight_now : IsTightBut (looking links now plan trip) links.count plan
  tight_now = grind (
    arith,
    some_gain,
    placed_next,
    u_other,
    by_bound,
    get_or-eq_default,
    v_same,
    none-some,
  )

  covered_now : (i : ℕ) → is_placed trip plan i ≡ true → Covers links now i
  covered_now i placed = grind (arith, placed_is, kept_now)

  module _ (claims : ClaimsParts) (none : claims ≡ no_claims_on (links.count + 1)) where
    no_claim : (place : ℕ) → claim_at claims place ≡ None
    no_claim place = ap (λ x. claim_at x place) none ∙ none_at (links.count + 1) place

    pub started : IsGrowing links now trip plan claims
    started = grind (arith, over_now, length-replicate, tight_now, covered_now, none-some, no_claim)

-- the first look from the root of a tree
module _ (links : Links) (now : PotentialParts) (trip : ℕ) (plan : List (Option ℕ)) (claims : ClaimsParts)
    (none : claims ≡ no_claims_on (links.count + 1)) where
  unclaimed : (place : ℕ) → claim_at claims place ≡ None
  unclaimed place = ap (λ x. claim_at x place) none ∙ none_at (links.count + 1) place

-- ---- the end

-- where a place was handed on, the plan is one of this kind again
pub taken_more : (links : Links) (potentials : PotentialParts) (trip : ℕ) (claims more : ClaimsParts)
    (plan after : List (Option ℕ)) → IsGrowing links potentials trip plan claims
    → IsHandedOn (looking links potentials plan trip) more plan after → IsTaken links potentials after
taken_more links potentials trip claims more plan after growing is = record {
  over = growing.over;
  tight = grind (arith, gain_of_some);
  covered = λ i j e. growing.covered i (gain_of_some links (is_placed trip plan) i j _ (is.linked i j e)).0;
}

-- no trip is taken in
pub none_taken : (links : Links) (n : ℕ) → n ≡ links.count
    → IsTaken links (record { u = replicate n 0; v = replicate n 0 }) (replicate n None)
none_taken links n is = record {
  over = record { each_u = length-replicate n 0 ∙ is; each_v = length-replicate n 0 ∙ is };
  tight = record {
    each = length-replicate n no_next ∙ is;
    within = λ i j e. absurd (none-some j (sym (none_next n i) ∙ e));
    linked = λ i j e. absurd (none-some j (sym (none_next n i) ∙ e));
    once = λ i other j e f. absurd (none-some j (sym (none_next n i) ∙ e));
    last = λ i apart e. zero_at n i;
    first = λ j inside apart free. zero_at n j;
  };
  covered = λ i j e. absurd (none-some j (sym (none_next n i) ∙ e));
}
  where
    zero_at : (n i : ℕ) → at (replicate n 0) i ≡ 0
    zero_at zero i = refl
    zero_at (suc n) zero = refl
    zero_at (suc n) (suc i) = zero_at n i

-- all trips are taken in: the plan is one, and the potentials are valid for it
module _ (links : Links) (sound : AreLinks links) (potentials : PotentialParts) (plan : List (Option ℕ))
    (is : IsTaken links potentials plan)
    (all : (i : ℕ) → i < links.count → Covers links potentials i) where
  pub all_plan : IsPlan links plan
  all_plan = grind arith

  covered_all : (i j : ℕ) → IfSome (links.gain i j)
      (λ gain. gain ≤ℤ pos (at potentials.u i + at potentials.v j))
  covered_all i j = grind (arith, none-some, ints, same_Some, is_some)

  pub all_valid : AreValid links plan potentials
  all_valid = tight_valid links plan potentials is.over covered_all all_plan (record {
    linked = is.tight.linked;
    last = λ i e. grind (arith, by_bound, get_or-eq_default);
    first = λ j free. grind (arith, by_bound, get_or-eq_default);
  })

-- no trip is taken in yet
pub none_taken_in : (links : Links) (n : ℕ) (potentials : PotentialParts) (plan : List (Option ℕ))
    → n ≡ links.count → plan ≡ replicate n None
    → potentials ≡ record { u = replicate n 0; v = replicate n 0 } → IsTaken links potentials plan
none_taken_in links n potentials plan size plan_is potentials_is =
    subst (λ p. IsTaken links p plan) (sym potentials_is)
    (subst (IsTaken links (record { u = replicate n 0; v = replicate n 0 })) (sym plan_is)
    (none_taken links n size))

-- the trips of the first so many steps are covered, of which each comes once after all trips came
pub record AreTakenIn (first tight : PlanParts) (steps : ℕ) : Type 0 where
  pub links : tight.links ≡ first.links
  pub covered : (i : ℕ) → i + length first.links < steps
      → Covers (links_in first.links) tight.potentials i

-- a step more: one trip is taken in
pub taken_step : (first tight after : PlanParts) (steps trip : ℕ) → AreTakenIn first tight steps
    → TakesIn tight trip after → (length first.links ≤ steps → trip ≡ steps - length first.links)
    → AreTakenIn first after (steps + 1)
taken_step first tight after steps trip are takes again = grind (arith, by_number)
