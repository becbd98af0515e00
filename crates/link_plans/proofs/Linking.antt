-- What a link leaves of a plan: the successor of each trip, and which trips are successors.
use Rattle.plan_num.proofs.Common.{◌≡◌, ◌≢◌, ◌⊎◌, inl, inr, ℕ, zero, suc, ◌<◌, ◌||◌, Bool, true}
use Rattle.plan_num.proofs.Common.{false, is_some, List, [], ◌∷◌, length, slice_set, replicate}
use Rattle.plan_num.proofs.Common.{Option, Some, None, refl, ap, sym, ◌∙◌, subst, arith}
use Rattle.plan_num.proofs.Common.{get_or-set_same, get_or-set_other, eq-eqb, false≢true, eqb-true}
use Rattle.plan_num.proofs.Common.{length-set, none-some, same_Some}
use Rattle.link_plans.specs.Plans.{next, is_next, is_trip, AreSuccessors}
use Rattle.plan_num.proofs.Tests.{later_true}

-- two numbers are the same, or not
pub by_number : {P : Type 0} (a b : ℕ) → (a ≡ b → P) → (a ≢ b → P) → P
by_number {P} a b same apart = grind arith

-- an option that has something
pub some_of : {X : Type 0} (at : Option X) → is_some at ≡ true → (x : X) × (at ≡ Some x)
some_of None h = absurd (false≢true h)
some_of (Some x) h = (x, refl)

-- ---- a plan without a link

pub none_next : (n i : ℕ) → next (replicate n None) i ≡ None
none_next zero i = refl
none_next (suc n) zero = refl
none_next (suc n) (suc i) = none_next n i

pub none_linked : (n : ℕ) → AreSuccessors (replicate n None)
none_linked n = grind (arith, none-some, none_next)

-- ---- trips that are successors

pub is_trip_same : (j : ℕ) (at : Option ℕ) → is_trip j at ≡ true → at ≡ Some j
is_trip_same j None h = absurd (false≢true h)
is_trip_same j (Some k) h = ap Some (sym (eqb-true j k h))

pub same_is_trip : (j : ℕ) (at : Option ℕ) → at ≡ Some j → is_trip j at ≡ true
same_is_trip j at e = subst (λ x. is_trip j x ≡ true) (sym e) (eq-eqb j j refl)

-- a trip after another one is a successor
pub next_found : (plan : List (Option ℕ)) (i j : ℕ) → next plan i ≡ Some j → is_next plan j ≡ true
next_found [] i j e = absurd (none-some j e)
next_found (at ∷ plan) zero j e = ap (λ b. b || is_next plan j) (same_is_trip j at e)
next_found (at ∷ plan) (suc i) j e = later_true (is_trip j at) (next_found plan i j e)

-- a trip that is no successor comes after none
pub not_next : (plan : List (Option ℕ)) (i j : ℕ) → is_next plan j ≡ false → next plan i ≢ Some j
not_next plan i j none e = false≢true (sym none ∙ next_found plan i j e)

-- a trip that comes after none is no successor
pub never_next : (plan : List (Option ℕ)) (j : ℕ) → ((i : ℕ) → next plan i ≢ Some j)
    → is_next plan j ≡ false
never_next [] j never = refl
never_next (at ∷ plan) j never =
    both (is_trip j at) refl (never_next plan j (λ i. never (suc i)))
  where
    both : (b : Bool) {c : Bool} → is_trip j at ≡ b → c ≡ false → (b || c) ≡ false
    both true e h = absurd (never 0 (is_trip_same j at e))
    both false e h = h

-- a successor comes after some trip
pub followed : (plan : List (Option ℕ)) (j : ℕ) → is_next plan j ≡ true
    → (i : ℕ) × (next plan i ≡ Some j)
followed [] j h = absurd (false≢true h)
followed (at ∷ plan) j h = first (is_trip j at) refl h (followed plan j)
  where
    more : (i : ℕ) × (next plan i ≡ Some j) → (i : ℕ) × (next (at ∷ plan) i ≡ Some j)
    more found = (suc found.0, found.1)

    first : (b : Bool) → is_trip j at ≡ b → (b || is_next plan j) ≡ true
        → (is_next plan j ≡ true → (i : ℕ) × (next plan i ≡ Some j))
        → (i : ℕ) × (next (at ∷ plan) i ≡ Some j)
    first true e h rest = (0, is_trip_same j at e)
    first false e h rest = more (rest h)

-- ---- one link more

module _ (plan : List (Option ℕ)) (i j : ℕ) (within : i < length plan) where
  -- the trip has its successor
  pub next_is : next (slice_set plan i (Some j)) i ≡ Some j
  next_is = get_or-set_same plan i (Some j) None within

  -- each other trip has the one that it had
  pub next_in : (other : ℕ) → other ≢ i → next (slice_set plan i (Some j)) other ≡ next plan other
  next_in other apart = get_or-set_other plan i other (Some j) None apart

  -- a successor is the new one, or it was there
  pub next_before : (other k : ℕ) → next (slice_set plan i (Some j)) other ≡ Some k
      → ((other ≡ i) × (k ≡ j)) ⊎ (next plan other ≡ Some k)
  next_before other k e = grind (arith, by_number, same_Some, slice_set, next_is, next_in)

  -- a trip that was no successor is none, where it is not the new one
  pub not_linked : (k : ℕ) → k ≢ j → is_next plan k ≡ false
      → is_next (slice_set plan i (Some j)) k ≡ false
  not_linked k apart none = never_next (slice_set plan i (Some j)) k
      (λ other e. elim (next_before other k e) as (λ _. ⊥) [
        | inl new ↦ apart new.1
        | inr old ↦ not_next plan other k none old
      ])

  -- a plan stays one in which no trip follows two
  pub linked : AreSuccessors plan → j < length plan → is_next plan j ≡ false
      → AreSuccessors (slice_set plan i (Some j))
  linked are to free = record {
    within = λ other k e. grind (arith, next_before, slice_set, length-set);
    once = λ one other k e f. elim (next_before one k e) as (λ _. one ≡ other) [
      | inl new ↦ grind (arith, next_before, not_next)
      | inr was ↦ elim (next_before other k f) as (λ _. one ≡ other) [
        | inl new ↦ absurd (not_next plan one j free (was ∙ ap Some new.1))
        | inr old ↦ are.once one other k was old
      ]
    ];
  }
