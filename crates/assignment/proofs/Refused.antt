-- The places that a search has claimed and expanded are a closed set, so no tight plan that agrees
-- on what is decided gives them to the trip that looks for a place.
use Rattle.plan_num.proofs.Common.{◌≡◌, ℕ, ◌<◌, ◌≤◌, true, false, is_some, Bool, List, length, take}
use Rattle.plan_num.proofs.Common.{slice_get, Option, Some, None, refl, ap, sym, ◌∙◌, arith}
use Rattle.plan_num.proofs.Common.{false≢true, get_or-take, length-take, slice_get_within}
use Rattle.link_plans.proofs.Common.{next, is_next, IsPlan, some_of, followed, next_found, IsTight}
use Rattle.link_plans.proofs.Common.{by_bound, place_of, has_next}
use Rattle.plan_search.specs.Claims.{ClaimsParts, claim_at}
use Rattle.plan_search.specs.Searches.{Search, IsTightAt}
use Rattle.assignment.specs.Choices.{IsUndecided, is_claimed, IsExpanded, AreExpanded, AreRight}
use Rattle.assignment.specs.Choices.{AgreeBefore, AreWithin, IsSearch}
use Rattle.assignment.proofs.ClosedPlaces.{IsClosed, AreDecided, stays_outside}

-- 1 for a place of a set
abbrev one : Bool → ℕ
one true = 1
one false = 0

-- no more than 1
one_most : (b : Bool) → one b ≤ 1
one_most true = omega arith
one_most false = omega arith

-- a set that has what another has is no less
one_along : (a b : Bool) → (a ≡ true → b ≡ true) → one a ≤ one b
one_along false b h = omega arith
one_along true b h = omega (arith, ap one (h refl))

-- which places are decided
decided : (plan : List (Option ℕ)) (low : ℕ) → AreDecided plan low (is_next (take low plan))
decided plan low = record {
  has = λ place h.
      let found = followed (take low plan) place h in
      let within : found.0 < low = omega (
        arith,
        has_next (take low plan) found.0 place found.1,
        length-take low plan,
      ) in
      (found.0, (within, sym (get_or-take low plan found.0 None within) ∙ found.1));
  not = λ place h i e. grind (arith, by_bound, false≢true, next_found, get_or-take);
}

module _ (search : Search) (plan : List (Option ℕ)) (is : IsSearch search plan) where
  -- links lead to trips
  pub inside : AreWithin search.links plan
  inside i j e = omega (arith, is.successors.within i j e, is.possible.each)

  -- what is claimed is closed, where all of it is expanded
  module _ (claims : ClaimsParts) (right : AreRight search plan claims)
      (expanded : AreExpanded search plan claims (length claims.order)) where
    -- each claimed place is expanded
    expanded_at : (place : ℕ) → is_claimed claims place ≡ true → IsExpanded search plan claims place
    expanded_at place h =
        let found = some_of (claim_at claims place) h in
        let stands : slice_get claims.order found.0.step ≡ Some place = right.placed place found.0
        found.1 in
        expanded found.0.step place (slice_get_within claims.order found.0.step place stands) stands

    closed : IsClosed search.links search.potentials plan search.low
        (λ place. one (is_claimed claims place))
    closed = record {
      one = λ place. one_most (is_claimed claims place);
      by = λ i place low within bound undecided tight.
          one_along (is_claimed claims (place_of search.links.count (next plan i)))
          (is_claimed claims place)
          (λ h. (expanded_at (place_of search.links.count (next plan i)) h).by i low within refl
          place
          (omega (arith, bound)) undecided tight);
      alone = λ from place from_bound free bound undecided zero. one_along (is_claimed claims from)
          (is_claimed claims place)
          (λ h. (expanded_at from h).alone free place (omega (arith, bound)) undecided zero);
    }

    -- so no tight plan that agrees on what is decided gives the trip a claimed place
    pub refused : claim_at claims (place_of search.links.count (next plan search.trip)) ≡ None
        → (other : List (Option ℕ)) → IsPlan search.links other → AreWithin search.links other
        → IsTight search.links search.potentials other → AgreeBefore search.low plan other
        → is_claimed claims (place_of search.links.count (next other search.trip)) ≡ true → ⊥
    refused free other fits in_other tight agrees h =
        stays_outside search.links search.potentials plan search.low
        (λ place. one (is_claimed claims place))
        (is_next (take search.low plan)) (decided plan search.low) is.over is.possible inside
        is.tight closed
        other fits in_other tight agrees (omega (arith, is.first, is.within))
        (ap (λ i. one (is_claimed claims (place_of search.links.count (next plan i)))) is.first
        ∙ ap one (ap is_some free))
        (ap (λ i. one (is_claimed claims (place_of search.links.count (next other i)))) is.first
        ∙ ap one h)

  -- the place that another tight plan gives the trip is one where it is tight, and undecided
  module _ (other : List (Option ℕ)) (fits : IsPlan search.links other)
      (in_other : AreWithin search.links other)
      (tight : IsTight search.links search.potentials other) (agrees : AgreeBefore search.low plan
      other) where
    pub other_tight : (to : Option ℕ) → next other search.trip ≡ to
        → IsTightAt search.links search.potentials search.trip (place_of search.links.count to)
    other_tight None e = grind arith
    other_tight (Some j) e = grind arith

    -- and it is undecided
    pub other_undecided : (to : Option ℕ) → next other search.trip ≡ to
        → IsUndecided plan search.low (place_of search.links.count to)
    other_undecided None e i h = grind arith
    other_undecided (Some j) e i h = grind arith
