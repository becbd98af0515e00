-- Sets of times of which one is empty.
use Rattle.plan_num.proofs.Common.{◌≡◌, ◌∙◌, inl, inr, ℕ, zero, suc, ◌+◌, ◌<◌, ◌≤◌, ◌||◌, Bool}
use Rattle.plan_num.proofs.Common.{true, false, List, [], ◌∷◌, length, map, filter, ap, sym, arith}
use Rattle.plan_num.proofs.Common.{◌⊎◌, ◌-◌, if◌then◌else◌, refl, slice_set, subst, list_any}
use Rattle.plan_num.proofs.Common.{range_with_len, and_from, and_parts, cases_Bool, cases_eq}
use Rattle.plan_num.proofs.Common.{eq-eqb, false≢true, ne_eqb, le-ltb, ltb-false, or_left, or_parts}
use Rattle.plan_num.proofs.Common.{or_right}
use Rattle.pesp.specs.Listings.{is_empty, times_at_first, with_time}
use Rattle.pesp.specs.Marks.{IsSettled, Marks, Prunes, Tracked, family, is_left, sets_of}
use Rattle.pesp.specs.Marks.{times_from}
use Rattle.pesp.specs.Revising.{HasEmpty, IsFull, IsWithin, Left, StaysFull}
use Rattle.pesp.proofs.Families.{filter_twice, sets_family}
use Rattle.pesp.proofs.ShrinkingSets.{filter_short}
use Rattle.plan_num.proofs.Tests.{same_tests}

-- fewer times pass where each that passes the one test passes the other
fewer_pass : (test other : ℕ → Bool) → ((x : ℕ) → test x ≡ true → other x ≡ true) → (xs : List ℕ)
    → length (filter test xs) ≤ length (filter other xs)
fewer_pass test other more xs =
    let short = filter_short test (filter other xs) in grind (
      arith,
      filter_twice,
      same_tests,
      and_parts,
      and_from,
    )

none_more : (few many : List ℕ) → length few ≤ length many → is_empty many ≡ true
    → is_empty few ≡ true
none_more few many less none = grind arith

module _ (period : ℕ) (left others : Left) (within : IsWithin left others) where
  abbrev times : Left → ℕ → List ℕ
  times left event = filter (left event) (range_with_len 0 period)

  abbrev some_empty : Left → ℕ → ℕ → Bool
  some_empty left from n = list_any is_empty (map (times left) (range_with_len from n))

  empty_on : (from n : ℕ) → some_empty others from n ≡ true → some_empty left from n ≡ true
  empty_on from zero none = none
  empty_on from (suc n) none = elim (cases_Bool (is_empty (times others from))) [
    | inl here ↦ grind (arith, or_left, none_more, fewer_pass)
    | inr not_here ↦
        let later : some_empty others (from + 1) n ≡ true =
        sym (ap (λ b. b || some_empty others (from + 1) n) not_here) ∙ none in
        or_right (is_empty (times left from)) _ (empty_on (from + 1) n later)
  ]

  pub empty_within : (events : ℕ) → list_any is_empty (family period events others) ≡ true
      → list_any is_empty (family period events left) ≡ true
  empty_within events none = empty_on 0 events none

pub empty_marks : (some many : Marks) → some.columns ≡ many.columns → some.rows ≡ many.rows
    → IsWithin (is_left some) (is_left many) → HasEmpty many → HasEmpty some
empty_marks some many period events within none =
    ap (list_any is_empty) (sets_family some
    ∙ (λ i. family (period i) (events i) (is_left some)))
    ∙ empty_within many.columns (is_left some) (is_left many) within many.rows
    (sym (ap (list_any is_empty) (sets_family many)) ∙ none)

-- where no event before one has several times none has among fewer
pub settled_within : (some many : Marks) (end : ℕ) → some.columns ≡ many.columns
    → IsWithin (is_left some) (is_left many) → IsSettled many end → IsSettled some end
settled_within some many end period within so event low =
    let times : ℕ → List ℕ = λ period.
    filter (is_left many event) (range_with_len 0 (period - 0)) in
    let fewer = fewer_pass (is_left some event) (is_left many event) (within event)
    (range_with_len 0 (some.columns - 0)) in grind (arith, ltb-false, le-ltb)

-- where none is empty, times are left to each event
times_at : (sets : Marks) (from n event : ℕ) → from ≤ event → event < from + n
    → list_any is_empty (map (λ event. times_from sets event 0) (range_with_len from n)) ≡ false
    → is_empty (times_from sets event 0) ≡ false
times_at sets from zero event low high none = absurd (omega (arith, low, high))
times_at sets from (suc n) event low high none =
    let parts = or_parts (is_empty (times_from sets from 0)) _ none in
    elim (cases_eq event from) [
      | inl same ↦ ap (λ event. is_empty (times_from sets event 0)) same ∙ parts.0
      | inr other ↦ grind (
        arith,
        times_at sets (from + 1) n event (omega (arith, low, other))
            (omega (arith, high)) parts.1,
      )
    ]

pub some_left : (sets : Marks) (event : ℕ) → event < sets.rows
    → list_any is_empty (sets_of sets) ≡ false → 1 ≤ length (times_from sets event 0)
some_left sets event within none =
    let test = times_at sets 0 sets.rows event (omega arith) (omega (arith, within)) none in grind
    (arith, cases_eq, false≢true, eq-eqb)

-- and where an event has none, one is empty
empty_at : (sets : Marks) (from n event : ℕ) → from ≤ event → event < from + n
    → length (times_from sets event 0) ≡ 0
    → list_any is_empty (map (λ event. times_from sets event 0) (range_with_len from n)) ≡ true
empty_at sets from zero event low high none = absurd (omega (arith, low, high))
empty_at sets from (suc n) event low high none = elim (cases_eq event from) [
  | inl same ↦ grind (arith, or_left, eq-eqb)
  | inr other ↦ grind (
    arith,
    or_right,
    empty_at sets (from + 1) n event (omega (arith, low, other))
        (omega (arith, high)) none,
  )
]

pub none_at : (sets : Marks) (event : ℕ) → event < sets.rows
    → length (times_from sets event 0) ≡ 0
    → HasEmpty sets
none_at sets event within none = empty_at sets 0 sets.rows event (omega arith) (omega (
  arith,
  within,
)) none

-- where each event has some, none is empty
full_on : (sets : Marks) (from n : ℕ)
    → ((event : ℕ) → event < from + n → is_empty (times_from sets event 0) ≡ false)
    → list_any is_empty (map (λ event. times_from sets event 0) (range_with_len from n)) ≡ false
full_on sets from zero each = refl
full_on sets from (suc n) each =
    (λ i. each from (omega arith) i
    || full_on sets (from + 1) n (λ event low. each event (omega (arith, low))) i)

pub full_from : (sets : Marks)
    → ((event : ℕ) → event < sets.rows → is_empty (times_from sets event 0) ≡ false) → IsFull sets
full_from sets each = full_on sets 0 sets.rows (λ event low. each event (omega (arith, low)))

pub full_at : (sets : Marks) (event : ℕ) → event < sets.rows → IsFull sets
    → is_empty (times_from sets event 0) ≡ false
full_at sets event within full =
    times_at sets 0 sets.rows event (omega arith) (omega (arith, within)) full

-- times are taken out of the set of one event, to which some stay
pub pruned_full : (before after : Tracked) (kept : ℕ) (keeps : Left) (changes : Bool)
    → Prunes before after keeps changes
    → ((event : ℕ) → (event ≡ kept → ⊥) → is_left after.sets event ≡ is_left before.sets event)
    → (changes ≡ true → is_empty (times_from after.sets kept 0) ≡ false) → StaysFull before after
pruned_full before after kept keeps changes so others some full = one (cases_Bool changes)
  where
    each : changes ≡ true → (event : ℕ) → event < after.sets.rows
        → is_empty (times_from after.sets event 0) ≡ false
    each is event within = elim (cases_eq event kept) [
      | inl own ↦ ap (λ event. is_empty (times_from after.sets event 0)) own ∙ some is
      | inr apart ↦
          (λ i. is_empty (filter (others event apart i) (range_with_len 0 (so.period i - 0))))
          ∙ full_at before.sets event (subst (λ events. event < events) so.events within) full
    ]

    one : (changes ≡ true) ⊎ (changes ≡ false) → IsFull after.sets
    one (inl is) = full_from after.sets (each is)
    one (inr is) = subst (λ (tracked : Tracked). IsFull tracked.sets) (sym (so.same is)) full

-- one time is left to one event
set_full : (sets : List (List ℕ)) (i time : ℕ) → list_any is_empty sets ≡ false
    → list_any is_empty (slice_set sets i (time ∷ [])) ≡ false
set_full [] i time full = full
set_full (times ∷ sets) zero time full = (or_parts (is_empty times) _ full).1
set_full (times ∷ sets) (suc i) time full =
    let parts = or_parts (is_empty times) _ full in grind (arith, set_full sets i time parts.1)

pub with_time_full : (sets : List (List ℕ)) (event time : ℕ) → list_any is_empty sets ≡ false
    → list_any is_empty (with_time sets event time) ≡ false
with_time_full sets event time full = set_full sets event time full

-- the sets at first
first_on : (period from n : ℕ) → 1 ≤ period
    → list_any is_empty (map (times_at_first period) (range_with_len from n)) ≡ false
first_on period from zero some = refl
first_on period from (suc n) some =
    (λ i. one (cases_eq from 0) i || first_on period (from + 1) n some i)
  where
    long : (n : ℕ) → 1 ≤ n → is_empty (range_with_len 0 n) ≡ false
    long zero many = absurd (omega (arith, many))
    long (suc n) many = ne_eqb _ 0 (λ none. absurd (omega (arith, none)))

    one : (from ≡ 0) ⊎ (from ≡ 0 → ⊥) → is_empty (times_at_first period from) ≡ false
    one (inl first) = grind (arith, eq-eqb)
    one (inr other) =
        ap (λ b. is_empty (if b then 0 ∷ [] else range_with_len 0 period)) (ne_eqb from 0 other)
        ∙ long period some

pub first_full : (sets : Marks) (period events : ℕ) → 1 ≤ period
    → sets_of sets ≡ map (times_at_first period) (range_with_len 0 events) → IsFull sets
first_full sets period events some are = ap (list_any is_empty) are ∙ first_on period 0 events some
