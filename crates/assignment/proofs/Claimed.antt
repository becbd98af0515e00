-- What one more claim leaves, and what is claimed where places are expanded.
use Rattle.plan_num.proofs.Common.{◌≡◌, ◌≢◌, ℕ, zero, suc, ◌+◌, ◌<◌, true, is_some, List, [], ◌∷◌}
use Rattle.plan_num.proofs.Common.{◌++◌, length, slice_set, slice_get, Option, Some, None, refl, ap}
use Rattle.plan_num.proofs.Common.{sym, ◌∙◌, subst, arith, length-append, length-set}
use Rattle.plan_num.proofs.Common.{get_or-set_same, get_or-set_other, none-some, same_Some}
use Rattle.link_plans.proofs.Common.{by_number, at}
use Rattle.bit_rows.specs.Bits.{Bits}
use Rattle.plan_search.specs.declared.claim.Claim.{Claim}
use Rattle.assignment.specs.ClaimablePlaces.{AreClaimable}
use Rattle.plan_search.specs.Claims.{ClaimsParts, claim_at}
use Rattle.plan_search.specs.Searches.{Search, IsClaim, IsTightBy}
use Rattle.assignment.specs.Choices.{ArePlaces, IsUndecided, is_claimed, AreExpanded, AreRight, AreMore, AreOthers}
use Rattle.plan_num.proofs.Lists.{front_item, last_item}

-- a search goes on: what it keeps, against the claims at its start
pub record AreGoing (search : Search) (plan : List (Option ℕ)) (start claims : ClaimsParts) : Type 0
  where
    pub right : AreRight search plan claims
    pub more : AreMore start claims
    pub others : AreOthers search start claims

-- the loop over the places that a trip would take: all that is claimed is expanded, the places
-- before one are claimed where they come before the trip's own, and what the trip claims itself is
-- among them
pub record IsSeeking (search : Search) (plan : List (Option ℕ)) (claims : ClaimsParts)
    (places : List ℕ) (own index : ℕ) (bits : Bits) : Type 0 where
  pub right : AreRight search plan claims
  pub claimable : AreClaimable search.links.count search.low plan claims bits
  pub are : ArePlaces (λ place. IsTightBy search.links search.potentials place (Some search.trip)
      × IsUndecided plan search.low place) (search.links.count + 1) places
  pub expanded : AreExpanded search plan claims (length claims.order)
  pub free : claim_at claims own ≡ None
  pub before : (k : ℕ) → k < index → at places k < own → is_claimed claims (at places k) ≡ true
  pub mine : (place : ℕ) (found : Claim) → claim_at claims place ≡ Some found
      → found.by ≡ Some search.trip → (k : ℕ) × ((k < index) × (at places k ≡ place))

-- ---- one claim more

-- and so does a claim
claim_kept : (search : Search) (plan : List (Option ℕ)) (before after : ClaimsParts) (place : ℕ)
    (found : Claim)
    → AreMore before after → IsClaim search plan before place found → IsClaim search plan after
    place found
claim_kept search plan before after place found more is = grind arith

-- the claims with one more
abbrev pub with_claim : ClaimsParts → ℕ → Claim → ClaimsParts
with_claim claims place found = record {
  at = slice_set claims.at place (Some found);
  order = claims.order ++ place ∷ [];
}

-- an item of a list with one more is of the list, or the last
front_or_last : {X : Type 0} {P : Type 0} (xs : List X) (x y : X) (k : ℕ) → slice_get (xs ++ x ∷ [])
    k ≡ Some y
    → (slice_get xs k ≡ Some y → P) → (x ≡ y → P) → P
front_or_last [] x y zero e front last = last (same_Some x y e)
front_or_last [] x y (suc k) e front last = absurd (none-some y e)
front_or_last (z ∷ xs) x y zero e front last = front e
front_or_last (z ∷ xs) x y (suc k) e front last = front_or_last xs x y k e front last

-- what is there is there
pub some_is : {X : Type 0} (at : Option X) (x : X) → at ≡ Some x → is_some at ≡ true
some_is at x e = ap is_some e

module _ (search : Search) (plan : List (Option ℕ)) (claims : ClaimsParts) (place : ℕ)
    (found : Claim)
    (right : AreRight search plan claims) (inside : place < length claims.at)
    (free : claim_at claims place ≡ None) (few : length claims.order < length claims.at)
    (undecided : IsUndecided plan search.low place) (step : found.step ≡ length claims.order)
    (is : IsClaim search plan claims place found) where
  abbrev pub new : ClaimsParts
  new = with_claim claims place found

  -- the claim on the place, and on the others
  pub at_place : claim_at new place ≡ Some found
  at_place = get_or-set_same claims.at place (Some found) None inside

  at_other : (other : ℕ) → other ≢ place → claim_at new other ≡ claim_at claims other
  at_other other apart = get_or-set_other claims.at place other (Some found) None apart

  -- all claims are kept
  pub claims_more : AreMore claims new
  claims_more = grind (arith, at_other, none-some, front_item)

  -- a claim is an old one, or the new one
  pub old_or_new : {P : Type 0} (other : ℕ) (one : Claim) → claim_at new other ≡ Some one
      → (claim_at claims other ≡ Some one → P) → (other ≡ place → found ≡ one → P) → P
  old_or_new other one e old latest = grind (arith, by_number, same_Some, at_place, at_other)

  -- and each is one
  pub claims_right : AreRight search plan new
  claims_right = record {
    places = length-set claims.at place (Some found) ∙ right.places;
    few = omega (
      arith,
      length-set claims.at place (Some found),
      few,
      length-append claims.order
          (place ∷ []),
    );
    claim = λ other one e. old_or_new other one e
        (λ old. claim_kept search plan claims new other one claims_more (right.claim other one old))
        (λ same is_found. subst (λ at. IsClaim search plan new at one) (sym same)
        (subst (λ claim. IsClaim search plan new place claim) is_found
        (claim_kept search plan claims new place found claims_more is)));
    undecided = λ other one e. old_or_new other one e
        (λ old. right.undecided other one old)
        (λ same is_found. subst (IsUndecided plan search.low) (sym same) undecided);
    placed = λ other one e. old_or_new other one e
        (λ old. front_item claims.order place other one.step (right.placed other one old))
        (λ same is_found.
        ap (slice_get (claims.order ++ place ∷ [])) (ap (λ claim. claim.step) (sym is_found) ∙ step)
        ∙ last_item claims.order place ∙ ap Some (sym same));
    listed = λ k other e. front_or_last claims.order place other k e
        (λ old. still_claimed other (right.listed k other old))
        (λ same. some_is (claim_at new other) found (ap (claim_at new) (sym same) ∙ at_place));
  }
    where
      still_claimed : (other : ℕ) → is_claimed claims other ≡ true → is_claimed new other ≡ true
      still_claimed other h = by_number other place
          (λ same. some_is (claim_at new other) found (ap (claim_at new) same ∙ at_place))
          (λ apart. ap is_some (at_other other apart) ∙ h)
