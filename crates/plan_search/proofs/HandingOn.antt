-- Places that are handed on along claims: each step leaves a tight plan, but for one place.
use Rattle.plan_num.proofs.Common.{◌≡◌, ◌≢◌, inl, inr, ℕ, pos, ◌<◌, ◌≤◌, ◌+◌, false, List, length}
use Rattle.plan_num.proofs.Common.{slice_set, Option, Some, None, MatchOption, IfSome, refl, ap}
use Rattle.plan_num.proofs.Common.{sym, ◌∙◌, subst, arith, get_or-eq_default, length-set, none-some}
use Rattle.plan_num.proofs.Common.{same_Some}
use Rattle.link_plans.proofs.Common.{next, is_next, by_number, not_next, never_next, at, by_bound}
use Rattle.link_plans.proofs.Common.{successor_at, some_successor, no_successor, successor_within}
use Rattle.link_plans.proofs.Common.{same_place, moved_is, moved_other, moved_next, moved_free}
use Rattle.link_plans.proofs.Common.{moved_from}
use Rattle.plan_search.specs.declared.claim.Claim.{Claim}
use Rattle.plan_search.specs.Claims.{ClaimsParts, claim_at}
use Rattle.plan_search.specs.Searches.{Search, IsTightAt, IsTightBy, IsTightBut, IsLeft, ComesFrom}
use Rattle.plan_search.specs.Searches.{IsClaim, AreClaimsBefore, IsFound, IsPassedOn, IsHandedOn}
use Rattle.plan_search.specs.Searches.{given_to, step_of}

-- a claimed place is one of the places
claimed_within : (claims : ClaimsParts) (place : ℕ) (found : Claim) → claim_at claims place ≡ Some found
    → place < length claims.at
claimed_within claims place found e = by_bound place (length claims.at) (λ within. within)
    (λ past. absurd (none-some found (sym (get_or-eq_default claims.at None past) ∙ e)))

-- the steps of a place and of one that was claimed sooner are not the same
apart_by_step : (claims : ClaimsParts) (place other : ℕ) (found sooner : Claim)
    → claim_at claims place ≡ Some found → claim_at claims other ≡ Some sooner
    → sooner.step < found.step → other ≢ place
apart_by_step claims place other found sooner e f less same = grind arith

module _ (search : Search) (plan : List (Option ℕ)) (claims : ClaimsParts) (place : ℕ)
    (is : IsFound search plan claims place) where
  abbrev own : IsClaim search plan claims place is.found
  own = is.before place is.found is.claimed (omega arith)

  -- a place that is left without a trip
  pub handed_alone : (from : ℕ) → is.found.by ≡ None
      → ComesFrom search plan claims is.found from → IsFound search plan claims from
  handed_alone from alone comes = record {
    places = is.places;
    within = is.within;
    low = is.low;
    tight = record {
      each = is.tight.each;
      within = is.tight.within;
      linked = is.tight.linked;
      once = is.tight.once;
      last = is.tight.last;
      first = λ j inside apart free. by_number j place
          (λ same. ap (at search.potentials.v) same ∙ subst (IsTightBy search.links search.potentials place)
          alone own.tight)
          (λ other. is.tight.first j inside other free);
    };
    waits = is.waits;
    free = subst (IsLeft search plan from) alone comes.left;
    found = comes.before;
    claimed = comes.is;
    before = λ other found e less. is.before other found e (omega (arith, less, comes.sooner));
  }

  -- a place that is given to a trip
  module _ (i : ℕ) (by : is.found.by ≡ Some i) where
    abbrev after : List (Option ℕ)
    after = slice_set plan i (successor_at search.links.count place)

    movable : (search.low ≤ i) × (i < search.links.count)
    movable = subst (λ at. IfSome at (λ k. (search.low ≤ k) × (k < search.links.count))) by own.movable

    inside : i < length plan
    inside = omega (arith, movable.1, is.tight.each)

    tight : IsTightAt search.links search.potentials i place
    tight = subst (IsTightBy search.links search.potentials place) by own.tight

    each : length after ≡ search.links.count
    each = length-set plan i (successor_at search.links.count place) ∙ is.tight.each

    within : (k j : ℕ) → next after k ≡ Some j → j < search.links.count
    within k j e = grind (arith, moved_next, inside, some_successor, tight)

    linked : (k j : ℕ) → next after k ≡ Some j
        → search.links.gain k j ≡ Some (pos (at search.potentials.u k + at search.potentials.v j))
    linked k j e = elim (moved_next plan i (successor_at search.links.count place) inside k j e) as
        (λ _. search.links.gain k j ≡ Some (pos (at search.potentials.u k + at search.potentials.v j))) [
          | inl new ↦ new_linked new.0 (some_successor search.links.count place j new.1)
          | inr old ↦ is.tight.linked k j old.1
        ]
      where
        new_linked : k ≡ i → (place < search.links.count) × (place ≡ j)
            → search.links.gain k j ≡ Some (pos (at search.potentials.u k + at search.potentials.v j))
        new_linked same trip = subst (λ x. search.links.gain x j
            ≡ Some (pos (at search.potentials.u x + at search.potentials.v j))) (sym same)
            (subst (λ x. search.links.gain i x
            ≡ Some (pos (at search.potentials.u i + at search.potentials.v x))) trip.1 (tight.linked trip.0))

    once : (k other j : ℕ) → next after k ≡ Some j → next after other ≡ Some j → k ≡ other
    once k other j e f = elim (moved_next plan i (successor_at search.links.count place) inside k j e) as
        (λ _. k ≡ other) [
          | inl new ↦ grind (arith, moved_next, inside, not_next, some_successor)
          | inr was ↦ elim (moved_next plan i (successor_at search.links.count place) inside other j f) as
              (λ _. k ≡ other) [
                | inl new ↦ absurd (not_next plan k place is.free
                    (was.1 ∙ ap Some (sym (some_successor search.links.count place j new.1).1)))
                | inr old ↦ is.tight.once k other j was.1 old.1
              ]
        ]

    last : (k : ℕ) → (k ≡ search.trip → ⊥) → next after k ≡ None → at search.potentials.u k ≡ 0
    last k apart e = grind (arith, by_number, tight, no_successor, moved_is, inside, moved_other)

    same_before : (k : ℕ) → k < search.low → next after k ≡ next plan k
    same_before k less = moved_other plan i (successor_at search.links.count place) inside k
        (λ same. omega (arith, less, same, movable.0))

    -- a place that is free is free before, where it is not the one that the trip leaves or takes
    free_before : (j : ℕ) → next plan i ≢ Some j → is_next after j ≡ false → is_next plan j ≡ false
    free_before j apart free = moved_from plan i (successor_at search.links.count place) inside j apart free

    -- the trip that looks for a place has it
    pub handed_last : is.found.from ≡ None → i ≡ search.trip → IsHandedOn search claims plan after
    handed_last none own_trip = record {
      each = each;
      within = within;
      linked = linked;
      once = once;
      last = λ k e. grind (arith, by_number, tight, last, no_successor, moved_is, inside);
      first = λ j low free. by_number j place
          (λ same. absurd (not_next after i j free
          (moved_is plan i (successor_at search.links.count place) inside
          ∙ successor_within search.links.count place (omega (arith, low, same)) ∙ ap Some (sym same))))
          (λ apart. is.tight.first j low apart (free_before j
          (λ e. none-some j (sym is.waits ∙ ap (next plan) (sym own_trip) ∙ e)) free));
      same = same_before;
      place = place;
      found = is.found;
      claimed = is.claimed;
      own = by ∙ ap Some own_trip;
      next_is = grind (arith, moved_is, inside);
    }

    -- or the place of the trip is handed on
    module _ (from : ℕ) (comes : ComesFrom search plan claims is.found from) where
      leaves : (i ≡ search.trip → ⊥) × (next plan i ≡ successor_at search.links.count from)
      leaves = subst (IsLeft search plan from) by comes.left

      from_few : from ≤ search.links.count
      from_few = omega (arith, claimed_within claims from comes.before comes.is, is.places)

      other_place : from ≢ place
      other_place = apart_by_step claims place from is.found comes.before is.claimed comes.is comes.sooner

      tight_after : IsTightBut search from after
      tight_after = record {
        each = each;
        within = within;
        linked = linked;
        once = once;
        last = last;
        first = λ j low apart free. by_number j place
            (λ same. absurd (not_next after i j free
            (moved_is plan i (successor_at search.links.count place) inside
            ∙ successor_within search.links.count place (omega (arith, low, same)) ∙ ap Some (sym same))))
            (λ other. is.tight.first j low other (free_before j
            (λ e. apart (sym (some_successor search.links.count from j (sym leaves.1 ∙ e)).1)) free));
      }

      free_after : is_next after from ≡ false
      free_after = never_next after from
          (λ k e. elim (moved_next plan i (successor_at search.links.count place) inside k from e) as (λ _. ⊥) [
            | inl new ↦ other_place (sym (some_successor search.links.count place from new.1).1)
            | inr old ↦ grind (arith, tight, once, leaves, successor_within, within)
          ])

      -- what a sooner claim leaves is as before
      left_after : (other : Option ℕ) (sooner : Claim) (place_left : ℕ) (left : Claim)
          → sooner.step < comes.before.step + 1 → claim_at claims place_left ≡ Some left
          → left.step < sooner.step → IsLeft search plan place_left other
          → IsLeft search after place_left other
      left_after None sooner place_left left less e f free =
          moved_free plan i (successor_at search.links.count place) inside place_left
          (λ same. apart_by_step claims place place_left is.found left is.claimed e
          (omega (arith, less, f, comes.sooner))
          (sym (some_successor search.links.count place place_left same).1)) free
      left_after (Some k) sooner place_left left less e f leaves_it =
          grind (
            arith,
            moved_other,
            inside,
            apart_by_step,
            same_place,
            claimed_within,
            from_few,
            leaves,
          )

      claims_after : AreClaimsBefore search after claims (comes.before.step + 1)
      claims_after other sooner e less =
          let was = is.before other sooner e (omega (arith, less, comes.sooner)) in
          record { tight = was.tight; movable = was.movable; from = from_after sooner.from was.from }
        where
          from_after : (at : Option ℕ)
              → MatchOption at (sooner.by ≡ Some search.trip) (λ left. ComesFrom search plan claims sooner left)
              → MatchOption at (sooner.by ≡ Some search.trip) (λ left. ComesFrom search after claims sooner left)
          from_after None own_it = own_it
          from_after (Some left) comes_from = record {
            before = comes_from.before;
            is = comes_from.is;
            sooner = comes_from.sooner;
            left = left_after sooner.by sooner left comes_from.before less comes_from.is comes_from.sooner
                comes_from.left;
          }

      pub handed_further : IsFound search after claims from
      handed_further = record {
        places = is.places;
        within = is.within;
        low = is.low;
        tight = tight_after;
        waits = grind (arith, moved_other, inside, leaves);
        free = free_after;
        found = comes.before;
        claimed = comes.is;
        before = claims_after;
      }

  -- ---- one step

  sooner_step : (from : ℕ) (comes : ComesFrom search plan claims is.found from)
      → step_of (claim_at claims from) < step_of (claim_at claims place)
  sooner_step from comes = grind arith

  -- what one step leaves
  pub passed_on : MatchOption is.found.from (IsHandedOn search claims plan (given_to plan is.found.by place))
      (λ from. IsPassedOn search claims plan (given_to plan is.found.by place) place from)
  passed_on = by_from is.found.from refl own.from
    where
      last_step : is.found.from ≡ None → (by : Option ℕ) → is.found.by ≡ by → by ≡ Some search.trip
          → IsHandedOn search claims plan (given_to plan by place)
      last_step none None e own_it = absurd (none-some search.trip own_it)
      last_step none (Some i) e own_it = subst
          (λ n. IsHandedOn search claims plan (slice_set plan i (successor_at n place))) (sym is.tight.each)
          (handed_last i e none (same_Some i search.trip own_it))

      more_step : (from : ℕ) → ComesFrom search plan claims is.found from → (by : Option ℕ)
          → is.found.by ≡ by → IsPassedOn search claims plan (given_to plan by place) place from
      more_step from comes None e = grind (arith, handed_alone, sooner_step)
      more_step from comes (Some i) e =
          grind (arith, slice_set, tight, each, handed_further, sooner_step, same_before)

      by_from : (from : Option ℕ) → is.found.from ≡ from
          → MatchOption from (is.found.by ≡ Some search.trip) (λ left. ComesFrom search plan claims is.found left)
          → MatchOption from (IsHandedOn search claims plan (given_to plan is.found.by place))
          (λ left. IsPassedOn search claims plan (given_to plan is.found.by place) place left)
      by_from None none own_it = last_step none is.found.by refl own_it
      by_from (Some from) e comes = more_step from comes is.found.by refl

  -- by the claim that was found
  pub passed_by : (claim : Claim) → claim_at claims place ≡ Some claim → (left : List (Option ℕ))
      → left ≡ given_to plan claim.by place
      → MatchOption claim.from (IsHandedOn search claims plan left)
      (λ from. IsPassedOn search claims plan left place from)
  passed_by claim e left leaves = grind (arith, leaves, same_Some, passed_on)

-- a place that was handed on so far
pub record IsHanding (search : Search) (claims : ClaimsParts) (start plan : List (Option ℕ)) (place : ℕ) : Type 0 where
  pub found : IsFound search plan claims place
  pub same : (i : ℕ) → i < search.low → next plan i ≡ next start i
