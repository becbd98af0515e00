-- A trip has its place for good: its own one, or another that it was handed.
use Rattle.plan_num.proofs.Common.{◌≡◌, ◌≢◌, ℕ, ◌+◌, ◌<◌, ◌≤◌, true, false, is_some, List, length}
use Rattle.plan_num.proofs.Common.{slice_set, take, Option, Some, None, Result, Ok, Err, IfOk, refl}
use Rattle.plan_num.proofs.Common.{ap, sym, ◌∙◌, subst, arith, length-set, get_or-take, get_or_past}
use Rattle.plan_num.proofs.Common.{none-some}
use Rattle.link_plans.proofs.Common.{next, is_next, IsPlan, ComesNoLater, IsFirstBest, Links}
use Rattle.link_plans.proofs.Common.{AreLinks, some_of, by_number, never_next, not_next}
use Rattle.link_plans.proofs.Common.{PotentialParts, AreValid, IsTight, by_bound, gains_all}
use Rattle.link_plans.proofs.Common.{tight_best, place_of, successor_at, moved_is, moved_other}
use Rattle.plan_search.specs.declared.claim.Claim.{Claim}
use Rattle.plan_search.specs.Claims.{ClaimsParts, claim_at}
use Rattle.plan_search.specs.Searches.{Search, IsLeft, IsClaim, IsTightBut, IsFound, IsHandedOn}
use Rattle.assignment.specs.Choices.{is_claimed, AreRight, AgreeBefore, AreWithin, IsSearch}
use Rattle.assignment.specs.Choices.{IsSought, IsLeast, IsSettled}

-- a place that comes no later
no_later : (count : ℕ) (mine other : Option ℕ) → ((j : ℕ) → other ≡ Some j → j < count)
    → place_of count mine ≤ place_of count other → ComesNoLater mine other
no_later count (Some i) (Some j) inside h = h
no_later count (Some i) None inside h = tt
no_later count None (Some j) inside h = let bound : j < count = inside j refl in grind arith
no_later count None None inside h = tt

-- what comes at a place has no later place
place_back : (count place : ℕ) → place_of count (successor_at count place) ≤ place
place_back count place = grind arith

module _ (search : Search) (plan : List (Option ℕ)) (is : IsSearch search plan) where
  inside : AreWithin search.links plan
  inside i j e = omega (arith, is.successors.within i j e, is.possible.each)

  -- ---- the trip without its place

  module _ (moved : List (Option ℕ)) (moved_as : moved ≡ slice_set plan search.trip None) where
    -- it waits for one, and the others keep theirs
    in_plan : search.trip < length plan
    in_plan = omega (arith, is.within, is.possible.each)

    waits : next moved search.trip ≡ None
    waits = ap (λ some. next some search.trip) moved_as ∙ moved_is plan search.trip None in_plan

    others : (i : ℕ) → i ≢ search.trip → next moved i ≡ next plan i
    others i apart = ap (λ some. next some i) moved_as ∙ moved_other plan search.trip None in_plan i
        apart

    not_trip : (i j : ℕ) → next moved i ≡ Some j → i ≢ search.trip
    not_trip i j e same = none-some j (sym waits ∙ ap (next moved) (sym same) ∙ e)

    was : (i j : ℕ) → next moved i ≡ Some j → next plan i ≡ Some j
    was i j e = sym (others i (not_trip i j e)) ∙ e

    -- a place without a trip still has none
    still_free : (j : ℕ) → is_next plan j ≡ false → is_next moved j ≡ false
    still_free j free = never_next moved j (λ i e. not_next plan i j free (was i j e))

    module _ (own : ℕ) (own_is : own ≡ place_of search.links.count (next plan search.trip)) where
      -- and its own one has none
      own_next : (to : Option ℕ) → next plan search.trip ≡ to → (i : ℕ) → next moved i ≡ Some own
          → ⊥
      own_next None e i h = grind (arith, inside, was)
      own_next (Some j) e i h = grind (arith, not_trip, was)

      own_free : is_next moved own ≡ false
      own_free = never_next moved own (own_next (next plan search.trip) refl)

      -- but for both the plan is tight
      tight_but : IsTightBut search own moved
      tight_but = record {
        each = ap length moved_as ∙ length-set plan search.trip None ∙ is.possible.each;
        within = λ i j e. inside i j (was i j e);
        linked = λ i j e. is.tight.linked i j (was i j e);
        once = λ i other j e f. is.possible.once i other j (was i j e) (was other j f);
        last = λ i apart e. is.tight.last i (sym (others i apart) ∙ e);
        first = λ j within apart free. is.tight.first j
            (never_next plan j (λ i e. by_number i search.trip
            (λ same. apart (sym (own_is ∙ ap (place_of search.links.count)
            (ap (next plan) (sym same) ∙ e))))
            (λ other. not_next moved i j free (others i other ∙ e))));
      }

      -- claims are claims still
      left_still : (from : ℕ) (by : Option ℕ) → IsLeft search plan from by
          → IsLeft search moved from by
      left_still from None left = still_free from left
      left_still from (Some i) left = (left.0, others i left.0 ∙ left.1)

      claim_still : (claims : ClaimsParts) (place : ℕ) (found : Claim) → IsClaim search plan claims
          place found
          → IsClaim search moved claims place found
      claim_still claims place found claim = grind (arith, left_still)

      -- so its place can be handed on, where it is claimed
      pub found_of : (claims : ClaimsParts) → AreRight search plan claims
          → is_claimed claims own ≡ true
          → IsFound search moved claims own
      found_of claims right claimed =
          let found = some_of (claim_at claims own) claimed in
          record {
            places = right.places;
            within = is.within;
            low = omega (arith, is.first);
            tight = tight_but;
            waits = waits;
            free = own_free;
            found = found.0;
            claimed = found.1;
            before = λ place one e bound. claim_still claims place one (right.claim place one e);
          }

    -- the place that it is handed is its place for good
    pub settled_one : (claims : ClaimsParts) (own : ℕ) (after : List (Option ℕ))
        → IsSought search plan claims own
        → IsHandedOn search claims moved after → IsSettled search plan after
    settled_one claims own after sought handed = record {
      possible = record {
        each = handed.each;
        follow = λ i j e. ap is_some (handed.linked i j e);
        once = handed.once;
      };
      tight = record {
        linked = handed.linked;
        last = handed.last;
        first = λ j free. by_bound j search.links.count
            (λ within. handed.first j within free)
            (λ past. get_or_past search.potentials.v j 0 (omega (arith, past, is.over.each_v)));
      };
      same = same;
      least = λ other fits in_other tight agrees.
          let first : handed.place ≤ place_of search.links.count (next other search.trip) =
          sought.first handed.place handed.found handed.claimed handed.own other fits in_other tight
          (λ i early. agrees i (omega (arith, early, is.first))
          ∙ same i (omega (arith, early, is.first))) in
          no_later search.links.count (next after search.trip) (next other search.trip)
          (in_other search.trip)
          (omega (
            arith,
            first,
            place_back search.links.count handed.place,
            ap
                (place_of search.links.count) handed.next_is,
          ));
    }
      where
        same : AgreeBefore search.trip plan after
        same i early = handed.same i (omega (arith, early, is.first))
            ∙ others i (λ here. none_below here early)
          where
            none_below : i ≡ search.trip → i < search.trip → ⊥
            none_below here below = omega (arith, here, below)

-- ---- one trip after another

-- a plan whose trips so far have their places for good
pub record IsDeciding (links : Links) (potentials : PotentialParts) (plan : List (Option ℕ))
    (trip : ℕ) : Type 0 where
  pub possible : IsPlan links plan
  pub tight : IsTight links potentials plan
  pub first : (i : ℕ) → i < trip → IsLeast links potentials plan i

-- one trip more has its place for good
pub deciding_more : (search : Search) (plan after : List (Option ℕ)) (trip : ℕ) → search.trip ≡ trip
    → IsDeciding search.links search.potentials plan trip → IsSettled search plan after
    → IsDeciding search.links search.potentials after (trip + 1)
deciding_more search plan after trip same is settled = record {
  possible = settled.possible;
  tight = settled.tight;
  first = λ i bound. by_number i trip
      (λ here. subst (IsLeast search.links search.potentials after) (same ∙ sym here) settled.least)
      (λ apart. earlier i (omega (arith, bound, apart)));
}
  where
    earlier : (i : ℕ) → i < trip → IsLeast search.links search.potentials after i
    earlier i bound other fits in_other tight agrees =
        subst (λ some. ComesNoLater some (next other i))
        (sym (settled.same i (omega (arith, bound, same))))
        (is.first i bound other fits in_other tight
        (λ k early. agrees k early ∙ settled.same k (omega (arith, early, bound, same))))

-- at first, a tight plan
pub deciding_none : (links : Links) (potentials : PotentialParts) (plan : List (Option ℕ))
    → IsPlan links plan
    → AreValid links plan potentials → IsDeciding links potentials plan 0
deciding_none links potentials plan possible valid = grind (arith, gains_all)

-- the trips of links are trips
pub plan_inside : (links : Links) → AreLinks links → (plan : List (Option ℕ)) → IsPlan links plan
    → AreWithin links plan
plan_inside links sound plan possible i j e = (sound.within i j (possible.follow i j e)).1

-- the search for the next trip's place can begin
pub search_is : (links : Links) → AreLinks links → (potentials : PotentialParts)
    (certified plan : List (Option ℕ)) (trip : ℕ)
    → AreValid links certified potentials → trip < links.count
    → IsDeciding links potentials plan trip
    → IsSearch (record { links = links; potentials = potentials; trip = trip; low = trip })
    plan
search_is links sound potentials certified plan trip valid within is = record {
  first = refl;
  within = within;
  over = valid.over;
  successors = record {
    within = λ i j e. omega (arith, plan_inside links sound plan is.possible i j e, is.possible.each);
    once = is.possible.once;
  };
  possible = is.possible;
  tight = is.tight;
}

-- in the end it is the first of those that gain the most
pub chosen_all : (links : Links) → AreLinks links → (potentials : PotentialParts)
    (certified plan : List (Option ℕ)) (trip : ℕ)
    → AreValid links certified potentials → IsPlan links certified
    → links.count ≤ trip
    → IsDeciding links potentials plan trip → IsFirstBest links plan
chosen_all links sound potentials certified plan trip valid fits all is =
    let exactly = tight_best links certified potentials valid fits in
    record {
      best = (exactly plan is.possible).1 is.tight;
      first = λ other best i bound agree.
          is.first i (omega (arith, bound, all, is.possible.each)) other best.possible
          (plan_inside links sound other best.possible) ((exactly other best.possible).0 best)
          (agreed i other agree);
    }
  where
    agreed : (i : ℕ) (other : List (Option ℕ)) → take i plan ≡ take i other → AgreeBefore i plan other
    agreed i other agree k early =
        sym (get_or-take i other k None early) ∙ ap (λ some. next some k) (sym agree) ∙ get_or-take i plan k None early

-- and so is what is made of it
pub chosen_told : {E : Type 0} (links : Links) (plan : List (Option ℕ)) → IsFirstBest links plan
    → (result : Result (List (Option ℕ)) E) → IfOk result (λ made. made ≡ plan) → IfOk result
    (IsFirstBest links)
chosen_told links plan is (Ok made) same = subst (IsFirstBest links) (sym same) is
chosen_told links plan is (Err why) same = tt
