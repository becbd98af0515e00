-- Marks of times as bits, and one word that is replaced.
use Rattle.plan_num.proofs.Common.{◌≡◌, ◌∙◌, inl, inr, ℕ, ◌+◌, ◌-◌, ◌*◌, ◌/◌, ◌<◌, ◌≤◌, true, false}
use Rattle.plan_num.proofs.Common.{List, length, get_or, slice_set, sum, max, Some, None, ap, sym}
use Rattle.plan_num.proofs.Common.{arith, cases_lt, get_or_past, set-get_or, set-set, sum_by-set}
use Rattle.plan_num.proofs.Common.{filter-append}
use Rattle.bit_rows.specs.Bits.{IsFirstBit, has_bit, with_word, word_of, words_of}
use Rattle.bit_rows.proofs.RowBits.{bit_there}
use Rattle.pesp.specs.Marks.{AreMarks, IsNext, Marks, is_left, times_from}
use Rattle.pesp.proofs.NextTimes.{next_one, no_more}
use Rattle.plan_num.proofs.Parts.{range_parts, none_of_range}

-- ---- sums

pub sum_less : (words : List ℕ) (i word : ℕ) → word < get_or words i 0
    → sum (slice_set words i word) < sum words
sum_less words i word less = elim (cases_lt i (length words)) [
  | inl low ↦ let all = sum_by-set (λ (n : ℕ). n) words i word 0 low in omega (arith, all, less)
  | inr high ↦ let none = get_or_past words i 0 high in absurd (omega (arith, none, less))
]

-- a word that was replaced and put back
pub word_again : (sets : Marks) (place word other : ℕ) → word ≡ get_or sets.words place 0
    → with_word (with_word sets place other) place word ≡ sets
word_again sets place word other was =
    ap (λ words. record { rows = sets.rows; columns = sets.columns; words = words })
    (set-set sets.words place other word ∙ ap (slice_set sets.words place) was
    ∙ set-get_or sets.words place 0)

-- ---- the next time

pub left_bit : (sets : Marks) (event time : ℕ) → AreMarks sets → event < sets.rows
    → time < 64 * words_of sets.columns → bit_there sets event time ≡ true
    → (time < sets.columns) × (is_left sets event time ≡ true)
left_bit sets event time are inside small is = grind arith

none_between : (sets : Marks) (event from n : ℕ)
    → ((time : ℕ) → from ≤ time → time < from + n → is_left sets event time ≡ false)
    → from + n ≤ sets.columns → times_from sets event from ≡ times_from sets event (from + n)
none_between sets event from n none few =
    let size : sets.columns - from ≡ n + (sets.columns - (from + n)) = omega (arith, few) in grind
    (arith, range_parts, filter-append, none_of_range)

-- none so far
abbrev pub NoneLeft : Marks → ℕ → ℕ → ℕ → Type 0
NoneLeft sets event from end =
    (time : ℕ) → from ≤ time → time < end → is_left sets event time ≡ false

module _ (sets : Marks) (event index from start word : ℕ) (are : AreMarks sets)
    (inside : event < sets.rows) (within : index < words_of sets.columns)
    (begins : start ≡ max from (64 * index) - 64 * index)
    (word_is : (time : ℕ) → time / 64 ≡ index → word_of sets event time ≡ word)
    (so : NoneLeft sets event from (64 * index)) where
  at : (bit : ℕ) → bit < 64 → has_bit word bit ≡ bit_there sets event (64 * index + bit)
  at bit low = grind arith

  none_to : (end : ℕ) → end ≤ 64
      → ((bit : ℕ) → start ≤ bit → bit < end → has_bit word bit ≡ false)
      → NoneLeft sets event from (64 * index + end)
  none_to end few none time low high = grind arith

  pub next_found : (bit : ℕ) → IsFirstBit word start (Some bit)
      → IsNext sets event from (Some (64 * index + bit))
  next_found bit first =
      let low : from ≤ 64 * index + bit = (let low = first.0 in omega (arith, begins, low)) in
      let end : from + (64 * index + bit - from) ≡ 64 * index + bit = omega (arith, low) in
      let small : 64 * index + bit < 64 * words_of sets.columns = (let few = first.1 in
      omega (arith, few, within)) in
      let left = left_bit sets event (64 * index + bit) are inside small
      (sym (at bit first.1) ∙ first.2) in
      let none = none_to bit (let few = first.1 in omega (arith, few)) first.3 in (
        left.0,
        left.1,
        none_between sets event from (64 * index + bit - from)
            (λ time low high. none time low (omega (arith, high, end)))
            (let few = left.0 in omega (arith, end, few))
            ∙ ap (times_from sets event) end
            ∙ next_one sets event (64 * index + bit) left.0 left.1,
      )

  pub none_found : IsFirstBit word start None → NoneLeft sets event from (64 * (index + 1))
  none_found none time low high =
      none_to 64 (omega arith) none time low (omega (arith, high))

pub none_at_end : (sets : Marks) (event index from : ℕ) → words_of sets.columns ≤ index
    → NoneLeft sets event from (64 * index) → IsNext sets event from None
none_at_end sets event index from all so = elim (cases_lt from sets.columns) [
  | inr high ↦ no_more sets event from high
  | inl low ↦
      let end : from + (sets.columns - from) ≡ sets.columns = omega (arith, low) in
      none_between sets event from (sets.columns - from)
      (λ time low high. so time low (omega (arith, high, end, all))) (omega (arith, end))
      ∙ ap (times_from sets event) end ∙ no_more sets event sets.columns (omega arith)
]
