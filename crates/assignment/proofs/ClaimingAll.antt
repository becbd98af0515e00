-- A trip or none claims all open places of a list.
use Rattle.plan_num.proofs.Common.{◌≡◌, ◌≢◌, ℕ, ◌+◌, ◌<◌, ◌≤◌, true, false, List, length, Option}
use Rattle.plan_num.proofs.Common.{Some, None, IfSome, refl, ap, sym, ◌∙◌, subst, arith, none-some}
use Rattle.plan_num.proofs.Common.{same_Some, slice_get_within}
use Rattle.link_plans.proofs.Common.{some_of, by_number, at, place_of}
use Rattle.plan_search.specs.declared.claim.Claim.{Claim}
use Rattle.plan_search.specs.Claims.{ClaimsParts, claim_at}
use Rattle.assignment.specs.ClaimablePlaces.{AreClaimable, AreTies, IsPut, IsRowOf}
use Rattle.plan_search.specs.Searches.{Search, IsTightBy, IsLeft, IsClaim}
use Rattle.assignment.specs.Choices.{ArePlaces, IsUndecided, is_claimed, AllClaimed, AreRight, AreMore, AreOthers}
use Rattle.bit_rows.specs.Bits.{Bits, has}
use Rattle.assignment.proofs.Claimables.{claimable_less}
use Rattle.assignment.proofs.Claimed.{AreGoing, with_claim, claims_more, claims_right, at_place, old_or_new, some_is}

-- the places of a list so far are claimed, and the others can be
pub record IsClaiming (search : Search) (plan : List (Option ℕ)) (start claims : ClaimsParts)
    (places : List ℕ) (index : ℕ) (bits : Bits) : Type 0 where
  pub going : AreGoing search plan start claims
  pub claimable : AreClaimable search.links.count search.low plan claims bits
  pub done : (k : ℕ) → k < index → is_claimed claims (at places k) ≡ true
  pub still : (k : ℕ) → index ≤ k → k < length places → has bits 0 (at places k) ≡ true

-- what is claimed stays claimed
pub still_claimed : (before after : ClaimsParts) (place : ℕ) → AreMore before after
    → is_claimed before place ≡ true
    → is_claimed after place ≡ true
still_claimed before after place more h = grind arith

-- those who leave a place are not the trip that looks for one
left_apart : (search : Search) (plan : List (Option ℕ)) (from : ℕ) (by : Option ℕ)
    → IsLeft search plan from by
    → by ≢ Some search.trip
left_apart search plan from None left e = none-some search.trip e
left_apart search plan from (Some i) left e = left.0 (same_Some i search.trip e)

-- one search follows another
pub gone_on : (search : Search) (plan : List (Option ℕ)) (start claims after : ClaimsParts)
    → AreGoing search plan start claims
    → AreRight search plan after → AreMore claims after → AreOthers search claims after
    → AreGoing search plan start after
gone_on search plan start claims after going right more others = grind arith

module _ (search : Search) (plan : List (Option ℕ)) (start : ClaimsParts) (by : Option ℕ) (from : ℕ)
    (ties first : Bits) (row : ℕ) (places : List ℕ)
    (row_is : row ≡ place_of search.links.count by)
    (all_ties : AreTies search.links search.potentials ties)
    (at_first : AreClaimable search.links.count search.low plan start first)
    (are : ArePlaces (λ place. (has ties row place ≡ true) × (has first 0 place ≡ true))
    ties.columns places)
    (movable : IfSome by (λ i. (search.low ≤ i) × (i < search.links.count))) where
  -- the row of who claims
  tie : IsRowOf (λ place. IsTightBy search.links search.potentials place by)
      (search.links.count + 1) ties row
  tie = grind arith

  module _ (claims : ClaimsParts) (index : ℕ) (bits : Bits)
      (is : IsClaiming search plan start claims places index bits) where
    -- one place more
    module _ (h : index < length places) where
      here : has bits 0 (at places index) ≡ true
      here = is.still index (omega arith) h

      pub inside : at places index < length claims.at
      inside = grind arith

      pub unclaimed : claim_at claims (at places index) ≡ None
      unclaimed = is.claimable.unclaimed (at places index) here

      -- the next claim
      abbrev latest : Claim
      latest = record { by = by; from = Some from; step = length claims.order }

      module _ (left : IsLeft search plan from by) (from_claimed : is_claimed start from ≡ true)
          (few : length claims.order < length claims.at) where
        latest_is : IsClaim search plan claims (at places index) latest
        latest_is =
            let before = some_of (claim_at claims from)
            (still_claimed start claims from is.going.more from_claimed) in
            record {
              tight = (tie.right (at places index) (are.right index h).0).1;
              movable = movable;
              from = record {
                before = before.0;
                is = before.1;
                sooner = slice_get_within claims.order before.0.step from
                    (is.going.right.placed from before.0 before.1);
                left = left;
              };
            }

        undecided : IsUndecided plan search.low (at places index)
        undecided = is.claimable.undecided (at places index) here

        more : AreMore claims (with_claim claims (at places index) latest)
        more = claims_more search plan claims (at places index) latest is.going.right inside
            unclaimed few undecided refl latest_is

        pub claiming_more : (new : ClaimsParts) (after : Bits)
            → new ≡ with_claim claims (at places index) latest
            → IsPut bits after 0 (at places index) false
            → IsClaiming search plan start new places (index + 1) after
        claiming_more new after new_is put =
            subst (λ some. IsClaiming search plan start some places (index + 1) after) (sym new_is)
            (record {
              going = gone_on search plan start claims (with_claim claims (at places index) latest)
                  is.going
                  (claims_right search plan claims (at places index) latest is.going.right inside
                  unclaimed few undecided refl latest_is)
                  more (λ place found e own. old_or_new search plan claims (at places index) latest
                  is.going.right inside unclaimed few undecided refl latest_is place found e
                  (λ old. old)
                  (λ same is_found. absurd (left_apart search plan from by left
                  (ap (λ claim. claim.by) is_found ∙ own))));
              claimable = claimable_less search.links.count search.low plan claims bits after
                  (at places index) latest is.claimable inside put;
              done = λ k bound. by_number k index
                  (λ same. some_is (claim_at (with_claim claims (at places index) latest)
                  (at places k)) latest
                  (ap (λ i. claim_at (with_claim claims (at places index) latest) (at places i))
                  same ∙ at_place search plan claims (at places index) latest is.going.right inside
                  unclaimed few undecided refl latest_is))
                  (λ apart. still_claimed claims (with_claim claims (at places index) latest)
                  (at places k) more (is.done k (omega (arith, bound, apart))));
              still = λ k past bound.
                  let later : at places index < at places k =
                  are.rising index k (omega (arith, past)) bound in
                  put.others 0 (at places k) (omega (arith, is.claimable.rows))
                  (λ _ same. apart k later same)
                  ∙ is.still k (omega (arith, past)) bound;
            })
          where
            apart : (k : ℕ) → at places index < at places k → at places k ≢ at places index
            apart k later same = omega (arith, later, same)

    -- in the end all that it is tight at is claimed
    pub claiming_all : length places ≤ index → AllClaimed search plan claims by
    claiming_all past place within undecided tight = grind arith
