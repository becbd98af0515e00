-- The nearest place of a tree is claimed: it is found, or the tree grows by the trip that has it.
use Rattle.plan_num.proofs.Common.{◌≡◌, ◌≢◌, ◌⊎◌, ℕ, ◌<◌, ◌+◌, ◌-◌, nat_lt, is_some, Bool, true}
use Rattle.plan_num.proofs.Common.{false, List, [], ◌∷◌, ◌++◌, length, get_or, slice_set, Option}
use Rattle.plan_num.proofs.Common.{Some, None, MatchOption, ap, sym, ◌∙◌, subst, arith}
use Rattle.plan_num.proofs.Common.{get_or-set_same, get_or-set_other, get_or-eq_default, ltb-true}
use Rattle.plan_num.proofs.Common.{ltb-false, length-set, length_push, none-some, same_Some}
use Rattle.plan_num.proofs.Common.{slice_get_within}
use Rattle.link_plans.proofs.Common.{next, is_next, Links, by_number, PotentialParts, at, by_bound}
use Rattle.link_plans.proofs.Common.{slack_to, successor_within}
use Rattle.plan_search.specs.declared.claim.Claim.{Claim}
use Rattle.plan_search.specs.declared.near.Near.{Near}
use Rattle.plan_search.specs.Claims.{ClaimsParts, claim_at, AreClaims}
use Rattle.plan_search.specs.Growing.{links_from, looking, is_placed, is_claimed, in_tree}
use Rattle.plan_search.specs.Growing.{looked, IsFrom, IsNear, AreLooked, AreNear}
use Rattle.plan_search.specs.Growing.{IsTreeClaim, IsGrowing}
use Rattle.plan_search.specs.Searches.{IsTightAt, ComesFrom, IsClaim, IsFound, AreClaimsBefore}
use Rattle.plan_search.proofs.ShiftedTrees.{some_gain, pos_worth, slack_inside, slack_past}
use Rattle.plan_search.proofs.ShiftedTrees.{tree_trip, tree_linked, tree_is, claim_there}
use Rattle.plan_search.proofs.ShiftedTrees.{tree_placed, tree_inside, claimed_inside}

-- what is nearest after one trip more was looked from
pub nearest_more : (links : Links) (potentials : PotentialParts) (some more : ℕ → Bool) (place by : ℕ)
    (from : Option ℕ) (old : Option Near)
    → ((i : ℕ) → more i ≡ true → (some i ≡ true) ⊎ (i ≡ by)) → IsNear links potentials some place old
    → IsNear links potentials more place (looked None (slack_to links potentials by place) by from old)
nearest_more links potentials some more place by from old grows near = grind (
  arith,
  grows,
  nat_lt,
  ltb-true,
  ltb-false,
)

-- where it comes from
pub from_more : (trip : ℕ) (plan : List (Option ℕ)) (claims : ClaimsParts) (by : ℕ) (from : Option ℕ) (slack : Option ℕ)
    (old : Option Near) → IsFrom trip plan claims by from
    → ((near : Near) → old ≡ Some near → IsFrom trip plan claims near.by near.from)
    → (near : Near) → looked None slack by from old ≡ Some near → IsFrom trip plan claims near.by near.from
from_more trip plan claims by from None old new was near e = was near e
from_more trip plan claims by from (Some slack) None new was near e =
    subst (λ x. IsFrom trip plan claims x.by x.from) (same_Some _ near e) new
from_more trip plan claims by from (Some slack) (Some found) new was near e = grind (
  arith,
  nat_lt,
  same_Some,
)

module _ (links : Links) (potentials : PotentialParts) (trip : ℕ) (plan : List (Option ℕ)) (claims : ClaimsParts)
    (is : IsGrowing links potentials trip plan claims) (ordered : AreClaims claims)
    (place : ℕ) (within : place < links.count + 1) (free : claim_at claims place ≡ None)
    (near : Near) (from : IsFrom trip plan claims near.by near.from)
    (exact : slack_to links potentials near.by place ≡ Some 0) where
  by_in : in_tree trip plan claims near.by ≡ true
  by_in = grind (arith, tree_trip, tree_linked)

  by_placed : is_placed trip plan near.by ≡ true
  by_placed = tree_placed links potentials trip plan claims is near.by by_in

  -- the trip is tight at the place
  tight_at : IsTightAt (links_from links (is_placed trip plan)) potentials near.by place
  tight_at = grind (
    arith,
    some_gain,
    by_placed,
    slack_inside,
    same_Some,
    slack_past,
    none-some,
    pos_worth,
  )

  abbrev new_claim : Claim
  new_claim = record { by = Some near.by; from = near.from; step = length claims.order }

  abbrev more : ClaimsParts
  more = record { at = slice_set claims.at place (Some new_claim); order = claims.order ++ place ∷ [] }

  inside : place < length claims.at
  inside = omega (arith, within, is.places)

  new_is : claim_at more place ≡ Some new_claim
  new_is = get_or-set_same claims.at place (Some new_claim) None inside

  old_is : (other : ℕ) → other ≢ place → claim_at more other ≡ claim_at claims other
  old_is other apart = get_or-set_other claims.at place other (Some new_claim) None apart

  -- what was claimed still is
  kept : (other : ℕ) (found : Claim) → claim_at claims other ≡ Some found → claim_at more other ≡ Some found
  kept other found e = old_is other (λ same. none-some found (sym free ∙ ap (claim_at claims) (sym same) ∙ e)) ∙ e

  still_claimed : (other : ℕ) → is_claimed claims other ≡ true → is_claimed more other ≡ true
  still_claimed other e = grind (arith, claim_there, is_some, kept)

  sooner : (other : ℕ) (found : Claim) → claim_at claims other ≡ Some found → found.step < length claims.order
  sooner other found e = slice_get_within claims.order found.step other (ordered.placed other found e)

  -- the new claim is one
  claim_new : IsClaim (looking links potentials plan trip) plan more place new_claim
  claim_new = record {
    tight = tight_at;
    movable = (omega arith, tree_inside links potentials trip plan claims is near.by by_in);
    from = from_it near.from from;
  }
    where
      from_it : (it : Option ℕ) → IsFrom trip plan claims near.by it
          → MatchOption it (Some near.by ≡ Some trip)
          (λ before. ComesFrom (looking links potentials plan trip) plan more new_claim before)
      from_it None own = ap Some own
      from_it (Some before) left = grind (
        arith,
        claim_there,
        kept,
        sooner,
        successor_within,
        claimed_inside,
      )

  -- and so are the others
  claim_old : (other : ℕ) (found : Claim) → claim_at claims other ≡ Some found
      → IsClaim (looking links potentials plan trip) plan more other found
  claim_old other found e =
      let was = is.claims_are other found e (sooner other found e) in
      record { tight = was.tight; movable = was.movable; from = from_it found.from was.from }
    where
      from_it : (it : Option ℕ)
          → MatchOption it (found.by ≡ Some trip)
          (λ before. ComesFrom (looking links potentials plan trip) plan claims found before)
          → MatchOption it (found.by ≡ Some trip)
          (λ before. ComesFrom (looking links potentials plan trip) plan more found before)
      from_it None own = own
      from_it (Some before) comes = grind (arith, kept, sooner)

  claims_more : AreClaimsBefore (looking links potentials plan trip) plan more (length claims.order + 1)
  claims_more other found e less = by_number other place
      (λ same. subst (λ x. IsClaim (looking links potentials plan trip) plan more x found) (sym same)
      (subst (IsClaim (looking links potentials plan trip) plan more place)
      (same_Some new_claim found (sym new_is ∙ ap (claim_at more) (sym same) ∙ e)) claim_new))
      (λ apart. claim_old other found (sym (old_is other apart) ∙ e))

  -- a place without a trip is found
  pub place_found : is_next plan place ≡ false
      → IsFound (looking links potentials plan trip) plan more place
  place_found alone = record {
    places = length-set claims.at place (Some new_claim) ∙ is.places;
    within = is.within;
    low = omega arith;
    tight = grind arith;
    waits = is.waits;
    free = alone;
    found = new_claim;
    claimed = new_is;
    before = claims_more;
  }

  -- or the tree grows by the trip that has it
  module _ (left : ℕ) (has : next plan left ≡ Some place) where
    -- trips of the tree were, or are this one
    grows : (i : ℕ) → in_tree trip plan more i ≡ true → (in_tree trip plan claims i ≡ true) ⊎ (i ≡ left)
    grows i e = grind (
      arith,
      tree_is,
      tree_trip,
      by_number,
      is_some,
      old_is,
      tree_linked,
      none-some,
    )

    -- and those that were still are
    still_in : (i : ℕ) → in_tree trip plan claims i ≡ true → in_tree trip plan more i ≡ true
    still_in i e = grind (arith, tree_is, tree_trip, tree_linked, none-some, still_claimed)

    tree_more : (other : ℕ) (found : Claim) → claim_at more other ≡ Some found
        → IsTreeClaim trip plan more other found
    tree_more other found e = by_number other place
        (λ same. record {
          owner = left;
          owns = has ∙ ap Some (sym same);
          by = near.by;
          by_is = ap (λ x. x.by) (sym (same_Some new_claim found (sym new_is ∙ ap (claim_at more) (sym same) ∙ e)));
          inside = still_in near.by by_in;
        })
        (λ apart. by_old (is.tree other found (sym (old_is other apart) ∙ e)))
      where
        by_old : IsTreeClaim trip plan claims other found → IsTreeClaim trip plan more other found
        by_old was = grind (arith, inside, still_in)

    pub grown : IsGrowing links potentials trip plan more
    grown = record {
      over = is.over;
      within = is.within;
      places = length-set claims.at place (Some new_claim) ∙ is.places;
      tight = is.tight;
      waits = is.waits;
      covered = is.covered;
      claims_are = subst (AreClaimsBefore (looking links potentials plan trip) plan more)
          (sym (length_push claims.order place)) claims_more;
      tree = tree_more;
    }

    -- it left its place
    pub from_left : IsFrom trip plan more left (Some place)
    from_left = grind (arith, none-some, is_some, new_is)

    pub nears_grown : (nears now : List (Option Near)) → AreNear links potentials trip plan claims nears
        → length now ≡ length nears
        → AreLooked links potentials more left (Some place) nears now
        → AreNear links potentials trip plan more now
    nears_grown nears now are each told = record {
      each = each ∙ are.each;
      near = λ other there none. subst (IsNear links potentials (in_tree trip plan more) other)
          (sym (told_it other there none))
          (nearest_more links potentials (in_tree trip plan claims) (in_tree trip plan more) other left (Some place)
          (get_or nears other None) grows (are.near other there (was_free other none)));
      from = λ other found none e. from_more trip plan more left (Some place) (slack_to links potentials left other)
          (get_or nears other None) from_left
          (λ old is_old. from_old old (are.from other old (was_free other none) is_old))
          found (sym (told_it other (there_of other found e) none) ∙ e);
    }
      where
        was_free : (other : ℕ) → claim_at more other ≡ None → claim_at claims other ≡ None
        was_free other none = grind (arith, old_is, none-some, new_is)

        told_it : (other : ℕ) → other < links.count + 1 → claim_at more other ≡ None → get_or now other None
            ≡ looked None (slack_to links potentials left other) left (Some place) (get_or nears other None)
        told_it other there none = grind arith

        there_of : (other : ℕ) (found : Near) → get_or now other None ≡ Some found → other < links.count + 1
        there_of other found e = grind (arith, by_bound, none-some, get_or-eq_default)

        from_old : (old : Near) → IsFrom trip plan claims old.by old.from → IsFrom trip plan more old.by old.from
        from_old old was = grind (arith, still_claimed)
