-- Claimed places are expanded, one after another.
use Rattle.plan_num.proofs.Common.{◌≡◌, ℕ, ◌+◌, ◌<◌, ◌≤◌, true, false, is_some, List, length}
use Rattle.plan_num.proofs.Common.{slice_get, Option, Some, None, Result, Ok, Err, OnOk, refl, ap}
use Rattle.plan_num.proofs.Common.{sym, ◌∙◌, subst, arith, false≢true, get_or_past, same_Some}
use Rattle.plan_num.proofs.Common.{slice_get_within, slice_get-get_or}
use Rattle.link_plans.proofs.Common.{next, is_next, some_of, by_number, not_next, at, by_bound}
use Rattle.link_plans.proofs.Common.{place_of, has_next, successor_past}
use Rattle.plan_search.specs.Claims.{ClaimsParts}
use Rattle.plan_search.specs.Searches.{Search, IsLeft}
use Rattle.assignment.specs.Choices.{is_claimed, AllClaimed, IsExpanded, LastExpanded, AreExpanded}
use Rattle.assignment.specs.Choices.{AreRight, AreMore, AreOthers, IsSearch}
use Rattle.assignment.proofs.ClaimingAll.{still_claimed, gone_on}
use Rattle.assignment.proofs.Claimed.{AreGoing, at_place}

-- a claimed place is one of the places
pub claimed_within : (search : Search) (plan : List (Option ℕ)) (claims : ClaimsParts) (place : ℕ)
    → AreRight search plan claims → is_claimed claims place ≡ true → place < search.links.count + 1
claimed_within search plan claims place right h =
    grind (arith, by_bound, false≢true, is_some, get_or_past)

-- the trip that has a claimed place may be moved
pub has_movable : (search : Search) (plan : List (Option ℕ)) (claims : ClaimsParts) (place by : ℕ)
    → IsSearch search plan → AreRight search plan claims → is_claimed claims place ≡ true
    → next plan by ≡ Some place → (search.low ≤ by) × (by < search.links.count)
has_movable search plan claims place by is right h has = grind (arith, some_of, has_next)

-- and leaves it, where it is not the one that looks
pub has_left : (search : Search) (plan : List (Option ℕ)) (place by : ℕ) → IsSearch search plan
    → (place_of search.links.count (next plan search.trip) ≡ place → ⊥)
    → next plan by ≡ Some place → IsLeft search plan place (Some by)
has_left search plan place by is apart has = grind arith

-- and so does one without a next trip, behind them all
pub last_left : (search : Search) (plan : List (Option ℕ)) (claims : ClaimsParts) (place by : ℕ)
    → IsSearch search plan → AreRight search plan claims → is_claimed claims place ≡ true
    → length plan ≤ place → (place_of search.links.count (next plan search.trip) ≡ place → ⊥)
    → next plan by ≡ None → IsLeft search plan place (Some by)
last_left search plan claims place by is right h past apart waits =
    let bound : place < search.links.count + 1 = claimed_within search plan claims place right h in
    grind (arith, successor_past)

-- what is not there
pub no_next : {X : Type 0} (at : Option X) → is_some at ≡ false → at ≡ None
no_next None e = refl
no_next (Some x) e = absurd (false≢true (sym e))

-- what a call leaves where it is not refused
pub on_ok : {E A : Type 0} {S T : Type 0} (result : Result A E) → (S → T) → OnOk result S
    → OnOk result T
on_ok (Ok value) f h = f h
on_ok (Err why) f h = h

-- the same of two clauses
pub on_both : {E A : Type 0} {R S T : Type 0} (result : Result A E) → (R → S → T) → OnOk result R
    → OnOk result S
    → OnOk result T
on_both (Ok value) f h k = f h k
on_both (Err why) f h k = h

-- a place is expanded by the trip that has it
pub expanded_by : (search : Search) (plan : List (Option ℕ)) (claims : ClaimsParts) (place by : ℕ)
    → IsSearch search plan → next plan by ≡ Some place → AllClaimed search plan claims (Some by)
    → IsExpanded search plan claims place
expanded_by search plan claims place by is has all = grind (arith, at_place, not_next)

-- where it has none
pub expanded_alone : (search : Search) (plan : List (Option ℕ)) (claims after : ClaimsParts)
    (place : ℕ)
    → is_next plan place ≡ false → AllClaimed search plan claims None → AreMore claims after
    → (place ≡ search.links.count → LastExpanded search plan after search.links.count)
    → IsExpanded search plan after place
expanded_alone search plan claims after place free all more last = grind (
  arith,
  at_place,
  still_claimed,
  not_next,
)

-- an expanded place stays one
pub still_expanded : (search : Search) (plan : List (Option ℕ)) (before after : ClaimsParts)
    (place : ℕ)
    → AreMore before after → IsExpanded search plan before place → IsExpanded search plan after
    place
still_expanded search plan before after place more is = grind arith

-- the trips without a next one, so far
pub record AreLast (search : Search) (plan : List (Option ℕ)) (start claims : ClaimsParts)
    (index : ℕ) : Type 0 where
  pub going : AreGoing search plan start claims
  pub done : LastExpanded search plan claims index

-- one more has claimed all
pub last_more : (search : Search) (plan : List (Option ℕ)) (start claims after : ClaimsParts)
    (index : ℕ)
    → AreLast search plan start claims index
    → AreRight search plan after → AreMore claims after → AreOthers search claims after
    → AllClaimed search plan after (Some index) → AreLast search plan start after (index + 1)
last_more search plan start claims after index is right more others all = grind arith

-- or it has a next one
pub last_kept : (search : Search) (plan : List (Option ℕ)) (start claims : ClaimsParts) (index : ℕ)
    → AreLast search plan start claims index → (next plan index ≡ None → ⊥)
    → AreLast search plan start claims (index + 1)
last_kept search plan start claims index is has = grind arith

-- ---- from one place to the next

-- the places that were claimed before a step are expanded
pub record IsGrowing (search : Search) (plan : List (Option ℕ)) (start claims : ClaimsParts)
    (step : ℕ) : Type 0 where
  pub going : AreGoing search plan start claims
  pub done : AreExpanded search plan claims step
  pub few : step ≤ length claims.order

-- one more is expanded
pub growing_more : (search : Search) (plan : List (Option ℕ)) (start claims after : ClaimsParts)
    (step place : ℕ)
    → IsGrowing search plan start claims step → slice_get claims.order step ≡ Some place
    → AreRight search plan after → AreMore claims after → AreOthers search claims after
    → IsExpanded search plan after place → IsGrowing search plan start after (step + 1)
growing_more search plan start claims after step place is at_step right more others
    expanded = record {
      going = gone_on search plan start claims after is.going right more others;
      done = λ before other bound e. by_number before step
          (λ same. subst (IsExpanded search plan after) (same_Some place other
          (sym (more.order step place at_step) ∙ ap (slice_get after.order) (sym same) ∙ e)) expanded)
          (λ apart. earlier before other (omega (arith, bound, apart)) e);
      few = let here : step < length after.order = slice_get_within after.order step place
          (more.order step place at_step) in
          omega (arith, here);
    }
  where
    earlier : (before other : ℕ) → before < step → slice_get after.order before ≡ Some other
        → IsExpanded search plan after other
    earlier before other bound e =
        let at_before : slice_get claims.order before ≡ Some (at claims.order before) =
        slice_get-get_or claims.order before 0 (omega (arith, bound, is.few)) in
        still_expanded search plan claims after other more
        (subst (IsExpanded search plan claims) (same_Some (at claims.order before) other
        (sym (more.order before (at claims.order before) at_before) ∙ e))
        (is.done before (at claims.order before) bound at_before))
