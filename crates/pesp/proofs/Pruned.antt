-- Times that are taken out of the set of an event, one word after the other.
use Rattle.plan_num.proofs.Common.{◌≡◌, ◌∙◌, ◌⊎◌, inl, inr, ℕ, ◌+◌, ◌*◌, ◌/◌, ◌%◌, ◌<◌, ◌≤◌, ◌==◌}
use Rattle.plan_num.proofs.Common.{nat_lt, bit_and, Bool, true, false, not, ◌&&◌, ◌||◌, List}
use Rattle.plan_num.proofs.Common.{get_or, length, refl, ap, sym, arith, IfOk, Result, Ok, Err}
use Rattle.plan_num.proofs.Common.{cases_Bool, cases_eq, cases_lt, cases_order, le-ltb, lt-ltb}
use Rattle.plan_num.proofs.Common.{ltb-true, ne_eqb, or_cases, or_parts, or_right}
use Rattle.bit_rows.specs.Bits.{has_bit, marked, with_word, words_of}
use Rattle.bit_rows.proofs.RowBits.{other_word, place_low, same_row, this_word}
use Rattle.bit_rows.proofs.WordBits.{and_bit}
use Rattle.pesp.specs.Marks.{AreMarks, KeepsBits, Marks, Prunes, Tracked, is_left}
use Rattle.pesp.specs.Marks.{marks_left, word_at}
use Rattle.pesp.proofs.MarkBits.{sum_less}
use Rattle.pesp.specs.Revising.{Left, stays}

-- ---- one word of which some bits stay

and_assoc : (x y z : Bool) → (x && (y && z)) ≡ ((x && y) && z)
and_assoc true y z = refl
and_assoc false y z = refl

module _ (now : Marks) (event index keep : ℕ) (are : AreMarks now) (inside : event < now.rows)
    (within : index < words_of now.columns) where
  abbrev place : ℕ
  place = event * words_of now.columns + index

  abbrev kept : ℕ
  kept = bit_and (word_at now event index) keep

  abbrev less : Marks
  less = with_word now place kept

  there : place < length now.words
  there = place_low now event index are.bits inside within

  left_elsewhere : (e t : ℕ) → (e ≡ event → t / 64 ≡ index → ⊥)
      → is_left less e t ≡ is_left now e t
  left_elsewhere e t apart = elim (cases_lt t now.columns) [
    | inl low ↦
        ap (λ word. nat_lt t now.columns && has_bit word (t % 64))
        (other_word now place kept there e t (λ same.
        let both = same_row (words_of now.columns) e (t / 64) event index (omega (arith, low))
        within same in grind arith))
    | inr high ↦ rw (le-ltb t now.columns high) refl
  ]

  left_here : (t : ℕ) → t / 64 ≡ index
      → is_left less event t ≡ (is_left now event t && has_bit keep (t % 64))
  left_here t at = grind (arith, nat_lt, this_word, there, and_bit, get_or, and_assoc)

  fewer_left : kept < word_at now event index → marks_left less < marks_left now
  fewer_left small = sum_less now.words place kept small

-- ---- the times up to one

abbrev pub stays_below : ℕ → List ℕ → ℕ → Left
stays_below kept keep end event time =
    not (event == kept) || (not (nat_lt time end) || marked keep time)

abbrev both : Left → Left → Left
both left keeps event time = left event time && keeps event time

-- another event
elsewhere : (kept : ℕ) (keep : List ℕ) (end e t : ℕ) → (e ≡ kept → ⊥)
    → stays_below kept keep end e t ≡ true
elsewhere kept keep end e t other =
    ap (λ b. not b || (not (nat_lt t end) || marked keep t)) (ne_eqb e kept other)

-- a time that is not reached
later : (kept : ℕ) (keep : List ℕ) (end e t : ℕ) → end ≤ t → stays_below kept keep end e t ≡ true
later kept keep end e t late =
    or_right (not (e == kept)) _ (ap (λ b. not b || marked keep t) (le-ltb t end late))

-- one that is
reached_here : (keep : List ℕ) (end e t : ℕ) → t < end
    → stays_below e keep end e t ≡ marked keep t
reached_here keep end e t h = grind arith

-- ---- the loop

and_unit : (x y z : Bool) → y ≡ true → ((x && y) && z) ≡ (x && z)
and_unit true y z is = ap (λ y. y && z) is
and_unit false y z is = refl

pub prune_word : (before now after : Tracked) (event index : ℕ) (keep : List ℕ)
    (changes is : Bool) → event < now.sets.rows → index < words_of now.sets.columns
    → Prunes before now (stays_below event keep (64 * index)) changes
    → KeepsBits now after event index (get_or keep index 0) is
    → Prunes before after (stays_below event keep (64 * (index + 1))) (changes || is)
prune_word before now after event index keep changes is inside within so turn = record {
  period = ap (λ (tracked : Tracked). tracked.sets.columns) turn.is ∙ so.period;
  events = ap (λ (tracked : Tracked). tracked.sets.rows) turn.is ∙ so.events;
  saved = ap (λ (tracked : Tracked). tracked.saved) turn.is ∙ so.saved;
  left = λ i e t. left e t (cases_eq e event) (cases_order (t / 64) index) i;
  same = λ none. let parts = or_parts changes is none in turn.same parts.1 ∙ so.same parts.0;
  fewer = λ some. fewer (or_cases changes is some);
  no_more = let one = no_more (cases_Bool is) in omega (arith, one, so.no_more);
}
  where
    less_here : is ≡ true → marks_left after.sets < marks_left now.sets
    less_here some = grind (arith, fewer_left, get_or)

    no_more : (is ≡ true) ⊎ (is ≡ false) → marks_left after.sets ≤ marks_left now.sets
    no_more (inl some) = let less = less_here some in omega (arith, less)
    no_more (inr none) = grind arith

    fewer : (changes ≡ true) ⊎ (is ≡ true) → marks_left after.sets < marks_left before.sets
    fewer (inl some) =
        let less = so.fewer some in
        let one = no_more (cases_Bool is) in
        omega (arith, less, one)
    fewer (inr some) = let less = less_here some in omega (arith, less, so.no_more)

    at : (e t : ℕ) → is_left now.sets e t
        ≡ both (is_left before.sets) (stays_below event keep (64 * index)) e t
    at e t = ap (λ (left : Left). left e t) so.left

    unchanged : (e t : ℕ) → (e ≡ event → t / 64 ≡ index → ⊥)
        → stays_below event keep (64 * index) e t ≡ stays_below event keep (64 * (index + 1)) e t
        → is_left after.sets e t
        ≡ both (is_left before.sets) (stays_below event keep (64 * (index + 1))) e t
    unchanged e t apart same =
        ap (λ (tracked : Tracked). is_left tracked.sets e t) turn.is
        ∙ left_elsewhere now.sets event index (get_or keep index 0) turn.sound inside within e t
        apart
        ∙ at e t ∙ ap (λ b. is_left before.sets e t && b) same

    left : (e t : ℕ) → (e ≡ event) ⊎ (e ≡ event → ⊥)
        → (t / 64 ≡ index) ⊎ ((t / 64 < index) ⊎ (index < t / 64))
        → is_left after.sets e t
        ≡ both (is_left before.sets) (stays_below event keep (64 * (index + 1))) e t
    left e t (inr apart) place =
        unchanged e t (λ own _. apart own)
        (elsewhere event keep (64 * index) e t apart
        ∙ sym (elsewhere event keep (64 * (index + 1)) e t apart))
    left e t (inl own) (inl here) =
        let low : 64 * index ≤ t = omega (arith, here) in
        let high : t < 64 * (index + 1) = omega (arith, here) in
        let bits : has_bit (get_or keep index 0) (t % 64) ≡ marked keep t =
        sym (ap (λ index. has_bit (get_or keep index 0) (t % 64)) here) in
        rw (own) (ap (λ (tracked : Tracked). is_left tracked.sets event t) turn.is
        ∙ left_here now.sets event index (get_or keep index 0) turn.sound inside within t here
        ∙ (λ i. at event t i && bits i)
        ∙ and_unit (is_left before.sets event t) _ (marked keep t)
        (later event keep (64 * index) event t low)
        ∙ ap (λ b. is_left before.sets event t && b)
        (sym (reached_here keep (64 * (index + 1)) event t high)))
    left e t (inl own) (inr (inl less)) =
        let low : t < 64 * index = omega (arith, less) in
        let high : t < 64 * (index + 1) = omega (arith, less) in
        unchanged e t (λ _ here. absurd (omega (arith, here, less)))
        (rw (own) (reached_here keep (64 * index) event t low
        ∙ sym (reached_here keep (64 * (index + 1)) event t high)))
    left e t (inl own) (inr (inr more)) =
        let low : 64 * index ≤ t = omega (arith, more) in
        let high : 64 * (index + 1) ≤ t = omega (arith, more) in
        unchanged e t (λ _ here. absurd (omega (arith, here, more)))
        (later event keep (64 * index) e t low
        ∙ sym (later event keep (64 * (index + 1)) e t high))

pub prune_ended : (before after : Tracked) (event : ℕ) (keep : List ℕ) (end : ℕ)
    (changes : Bool) → Prunes before after (stays_below event keep end) changes
    → before.sets.columns ≤ end → Prunes before after (stays event keep) changes
prune_ended before after event keep end changes so all = record {
  period = so.period;
  events = so.events;
  saved = so.saved;
  left = so.left ∙ (λ i e t. last e t (cases_Bool (nat_lt t before.sets.columns)) i);
  same = so.same;
  fewer = so.fewer;
  no_more = so.no_more;
}
  where
    last : (e t : ℕ) → (nat_lt t before.sets.columns ≡ true) ⊎ (nat_lt t before.sets.columns ≡ false)
        → both (is_left before.sets) (stays_below event keep end) e t
        ≡ both (is_left before.sets) (stays event keep) e t
    last e t (inl is) = grind (arith, ltb-true, lt-ltb)
    last e t (inr is) = rw (is) refl

-- ---- bits by a test

abbrev pub kept_by : ℕ → (ℕ → Bool) → Left
kept_by kept test event time = not (event == kept) || test time

pub prunes_as : (before after : Tracked) (keeps others : Left) (changes : Bool)
    → ((e t : ℕ) → both (is_left before.sets) keeps e t ≡ both (is_left before.sets) others e t)
    → Prunes before after keeps changes → Prunes before after others changes
prunes_as before after keeps others changes same so = record {
  period = so.period;
  events = so.events;
  saved = so.saved;
  left = so.left ∙ (λ i e t. same e t i);
  same = so.same;
  fewer = so.fewer;
  no_more = so.no_more;
}

by_bits : (sets : Marks) (kept : ℕ) (test : ℕ → Bool) (keep : List ℕ)
    → ((t : ℕ) → t < sets.columns → marked keep t ≡ test t) → (e t : ℕ)
    → both (is_left sets) (stays kept keep) e t ≡ both (is_left sets) (kept_by kept test) e t
by_bits sets kept test keep is e t = grind (arith, cases_Bool, nat_lt, ltb-true)

pub prunes_by_bits : {E : Type 0} (before after : Tracked) (kept : ℕ) (test : ℕ → Bool)
    (keep : List ℕ) (result : Result Bool E)
    → ((t : ℕ) → t < before.sets.columns → marked keep t ≡ test t)
    → IfOk result (Prunes before after (stays kept keep))
    → IfOk result (Prunes before after (kept_by kept test))
prunes_by_bits before after kept test keep (Ok changes) is so =
    prunes_as before after (stays kept keep) (kept_by kept test) changes
    (by_bits before.sets kept test keep is) so
prunes_by_bits before after kept test keep (Err why) is so = tt
