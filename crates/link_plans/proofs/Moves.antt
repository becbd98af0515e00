-- What a plan is after one trip was given another place, and the trips before them.
use Rattle.plan_num.proofs.Common.{◌≡◌, ◌≢◌, ◌⊎◌, inl, inr, ℕ, zero, suc, ◌<◌, ◌≤◌, nat_lt, false}
use Rattle.plan_num.proofs.Common.{List, [], ◌∷◌, length, slice_set, replicate, Option, Some, None}
use Rattle.plan_num.proofs.Common.{MatchOption, IfSome, refl, ap, sym, ◌∙◌, arith, get_or-set_same}
use Rattle.plan_num.proofs.Common.{get_or-set_other, ltb-true, ltb-false, length-set, none-some}
use Rattle.plan_num.proofs.Common.{same_Some}
use Rattle.link_plans.specs.Plans.{next, is_next, AreSuccessors}
use Rattle.link_plans.proofs.Linking.{by_number, none_next, not_next, never_next}
use Rattle.link_plans.specs.Places.{successor_at, forgotten, AreLinked}

-- ---- places

pub some_successor : (count place j : ℕ) → successor_at count place ≡ Some j
    → (place < count) × (place ≡ j)
some_successor count place j e = grind (arith, nat_lt, ltb-true, same_Some, none-some)

pub no_successor : (count place : ℕ) → successor_at count place ≡ None → count ≤ place
no_successor count place e = grind (arith, nat_lt, none-some, ltb-false)

pub successor_within : (count place : ℕ) → place < count → successor_at count place ≡ Some place
successor_within count place within = grind (arith, nat_lt, ltb-false)

pub successor_past : (count place : ℕ) → count ≤ place → successor_at count place ≡ None
successor_past count place past = grind (arith, nat_lt, ltb-true)

-- two places with the same trip are the same
pub same_place : (count f g : ℕ) → f ≤ count → g ≤ count
    → successor_at count f ≡ successor_at count g → f ≡ g
same_place count f g few most e =
    grind (
      arith,
      nat_lt,
      some_successor,
      successor_within,
      ltb-true,
      ltb-false,
      no_successor,
      successor_past,
    )

-- ---- one trip with another place

module _ (plan : List (Option ℕ)) (i : ℕ) (at : Option ℕ) (within : i < length plan) where
  pub moved_is : next (slice_set plan i at) i ≡ at
  moved_is = get_or-set_same plan i at None within

  pub moved_other : (other : ℕ) → other ≢ i → next (slice_set plan i at) other ≡ next plan other
  moved_other other apart = get_or-set_other plan i other at None apart

  -- what comes after a trip is the new one, or it was there
  pub moved_next : (other k : ℕ) → next (slice_set plan i at) other ≡ Some k
      → ((other ≡ i) × (at ≡ Some k)) ⊎ ((other ≢ i) × (next plan other ≡ Some k))
  moved_next other k e = grind (arith, by_number, moved_is, slice_set, moved_other)

  -- a trip that comes after none still does, where it is not the new one
  pub moved_free : (k : ℕ) → at ≢ Some k → is_next plan k ≡ false
      → is_next (slice_set plan i at) k ≡ false
  moved_free k apart none = never_next (slice_set plan i at) k
      (λ other e. elim (moved_next other k e) as (λ _. ⊥) [
        | inl new ↦ apart new.1
        | inr old ↦ not_next plan other k none old.1
      ])

  -- and one that comes after none came after none or after the one that moved
  pub moved_from : (k : ℕ) → next plan i ≢ Some k → is_next (slice_set plan i at) k ≡ false
      → is_next plan k ≡ false
  moved_from k apart none = never_next plan k
      (λ other e. by_number other i
      (λ same. apart (sym (ap (next plan) same) ∙ e))
      (λ other_one. not_next (slice_set plan i at) other k none (moved_other other other_one ∙ e)))

-- a trip with a next one is there
pub has_next : (plan : List (Option ℕ)) (i j : ℕ) → next plan i ≡ Some j → i < length plan
has_next [] i j e = absurd (none-some j e)
has_next (at ∷ plan) zero j e = omega arith
has_next (at ∷ plan) (suc i) j e = omega (arith, has_next plan i j e)

-- ---- the trips before

module _ (after before : List (Option ℕ)) (are : AreLinked after before) where
  -- no trip comes after two
  pub linked_once : (i other j : ℕ) → next after i ≡ Some j → next after other ≡ Some j → i ≡ other
  linked_once i other j e f =
      same_Some i other (sym ((are.both i j).0 e) ∙ (are.both other j).0 f)

  -- what comes after a trip is there
  pub next_inside : (i : ℕ) → IfSome (next after i) (λ j. j < length after)
  next_inside i = grind arith

  pub linked_are : AreSuccessors after
  linked_are = record { within = are.within; once = linked_once }

  -- what comes before a trip
  pub before_is : (j : ℕ) → MatchOption (next before j) (is_next after j ≡ false)
      (λ i. next after i ≡ Some j)
  before_is j = split (next before j) refl
    where
      split : (at : Option ℕ) → next before j ≡ at
          → MatchOption at (is_next after j ≡ false) (λ i. next after i ≡ Some j)
      split None e = never_next after j (λ i f. none-some i (sym e ∙ (are.both i j).0 f))
      split (Some i) e = (are.both i j).1 e

  -- where there is one
  pub before_inside : (j : ℕ) → IfSome (next before j) (λ i. i < length after)
  before_inside j = split (next before j) refl
    where
      split : (at : Option ℕ) → next before j ≡ at → IfSome at (λ i. i < length after)
      split None e = tt
      split (Some i) e = has_next after i j ((are.both i j).1 e)

  -- a trip gives its place up
  module _ (i : ℕ) (inside : i < length after) where
    left_none : next after i ≡ None → AreLinked (slice_set after i None) before
    left_none none =
        grind (arith, length-set, moved_next, slice_set, none-some, by_number, moved_other)

    left_some : (own : ℕ) → next after i ≡ Some own
        → AreLinked (slice_set after i None) (slice_set before own None)
    left_some own is =
        grind (
          arith,
          length-set,
          moved_next,
          slice_set,
          none-some,
          moved_other,
          linked_once,
          same_Some,
        )

    -- the trip whose place it was is there
    pub own_inside : IfSome (next after i) (λ own. own < length before)
    own_inside = grind arith

    pub taken_away : AreLinked (slice_set after i None) (forgotten before (next after i))
    taken_away = split (next after i) refl
      where
        split : (at : Option ℕ) → next after i ≡ at
            → AreLinked (slice_set after i None) (forgotten before at)
        split None e = left_none e
        split (Some own) e = left_some own e

    -- a trip without a place is given one that no trip has
    pub given : (place : ℕ) → next after i ≡ None → place < length after → is_next after place ≡ false
        → AreLinked (slice_set after i (Some place)) (slice_set before place (Some i))
    given place none to free =
        grind (
          arith,
          length-set,
          moved_next,
          slice_set,
          same_Some,
          moved_is,
          moved_other,
          not_next,
          none-some,
        )

-- so many trips, none after another
pub none_before : (n : ℕ) → AreLinked (replicate n None) (replicate n None)
none_before n = grind (arith, none-some, none_next)

-- a place that was taken away and given another one is given this one
pub set_again : {X : Type 0} (xs : List X) (i : ℕ) (a b : X)
    → slice_set (slice_set xs i a) i b ≡ slice_set xs i b
set_again [] i a b = refl
set_again (x ∷ xs) zero a b = refl
set_again (x ∷ xs) (suc i) a b = ap (λ rest. x ∷ rest) (set_again xs i a b)

-- the plan after one trip was given a place
pub given_inside : (plan away : List (Option ℕ)) (i place : ℕ) → away ≡ slice_set plan i None
    → place < length plan
    → slice_set away i (Some place) ≡ slice_set plan i (successor_at (length plan) place)
given_inside plan away i place is within = grind (arith, slice_set, set_again, successor_within)

pub given_past : (plan : List (Option ℕ)) (i place : ℕ) → length plan ≤ place
    → slice_set plan i None ≡ slice_set plan i (successor_at (length plan) place)
given_past plan i place past = ap (slice_set plan i) (sym (successor_past (length plan) place past))

abbrev nobody : Option ℕ
nobody = None

pub none_apart : (k : ℕ) → nobody ≢ Some k
none_apart k e = none-some k e

-- a place behind all trips comes after none
pub past_free : (plan : List (Option ℕ)) (place : ℕ) → AreSuccessors plan → length plan ≤ place
    → is_next plan place ≡ false
past_free plan place are past =
    never_next plan place (λ i e. absurd (omega (arith, past, are.within i place e)))
