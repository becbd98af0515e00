-- Times of a period in one word.
use Rattle.plan_num.proofs.Common.{◌≡◌, ◌∙◌, ◌⊎◌, inl, inr, ℕ, ◌+◌, ◌-◌, ◌*◌, ◌/◌, ◌%◌, ◌^◌, ◌<◌}
use Rattle.plan_num.proofs.Common.{◌≤◌, nat_lt, bit_or, false, ◌&&◌, ◌||◌, [], ◌∷◌, slice_set, ap}
use Rattle.plan_num.proofs.Common.{sym, arith, add-mod_right, cases_lt, le-ltb, lt-ltb, get_or_past}
use Rattle.std.proofs.Math.Nat.{add-mod_left, mod-eq_of_lt}
use Rattle.bit_rows.specs.Bits.{has_bit, marked, word_of}
use Rattle.bit_rows.proofs.WordBits.{high_bit, or_bit, shl_high, shl_low, shr_bit, zero_bit}
use Rattle.pesp.specs.Marks.{AreMarks, Marks, is_left}
use Rattle.pesp.specs.Revising.{IsClear, turned_to}
use Rattle.pesp.proofs.WordTurns.{IsWide, wide_begun, zeros}
use Rattle.bit_rows.proofs.WordBits.{or_none as or_false}

pub in_word : (word time : ℕ) → time < 64 → marked (word ∷ []) time ≡ has_bit word time
in_word word time low = grind arith

pub past_word : (word time : ℕ) → 64 ≤ time → marked (word ∷ []) time ≡ false
past_word word time high = grind (arith, get_or_past, zero_bit)

pub both_words : (first second time : ℕ)
    → marked (bit_or first second ∷ []) time
    ≡ (marked (first ∷ []) time || marked (second ∷ []) time)
both_words first second time = grind (arith, cases_lt, in_word, bit_or, or_bit, past_word)

-- a word before words without a bit
pub word_alone : (word time : ℕ) → marked (slice_set zeros 0 word) time ≡ marked (word ∷ []) time
word_alone word time = grind arith

pub word_begun : (sets : Marks) (event word : ℕ) → AreMarks sets → event < sets.rows
    → sets.columns ≤ 64 → ((time : ℕ) → time / 64 ≡ 0 → word_of sets event time ≡ word)
    → IsWide sets.columns (is_left sets event) 1 (word ∷ [])
word_begun sets event word are inside small is =
    wide_begun sets.columns (is_left sets event) (word ∷ []) (λ time. one time (cases_lt time 64)
    (cases_lt time sets.columns))
  where
    one : (time : ℕ) → (time < 64) ⊎ (64 ≤ time) → (time < sets.columns) ⊎ (sets.columns ≤ time)
        → marked (word ∷ []) time ≡ (nat_lt time sets.columns && is_left sets event time)
    one time (inl low) (inl within) = grind arith
    one time (inl low) (inr late) = grind arith
    one time (inr high) place = grind (arith, past_word, le-ltb)

-- ---- a word that is turned

module _ (times period by : ℕ) (some : 1 ≤ period) (small : period ≤ 64)
    (clear : IsClear period (times ∷ [])) where
  outside : (word time : ℕ) → period ≤ time → (time < 64 → has_bit word time ≡ false)
      → marked (word ∷ []) time ≡ turned_to period (times ∷ []) by time
  outside word time late none = grind (arith, cases_lt, in_word, past_word, le-ltb)

  within : (time : ℕ) → time < period
      → turned_to period (times ∷ []) by time ≡ marked (times ∷ []) ((time + by) % period)
  within time low =
      ap (λ b. b && marked (times ∷ []) ((time + by) % period)) (lt-ltb time period low)

  pub not_turned : (by ≡ 0) ⊎ (by ≡ period) → (time : ℕ)
      → marked (times ∷ []) time ≡ turned_to period (times ∷ []) by time
  not_turned whole time = grind (
    arith,
    cases_lt,
    outside,
    in_word,
    within,
    mod-eq_of_lt,
    add-mod_right,
  )

  pub turned_bit : (fits : times < 2 ^ 64) → 1 ≤ by → by < period → (time : ℕ) → time < period
      → has_bit (bit_or (times / 2 ^ by) (times * 2 ^ (period - by) % 2 ^ 64)) time
      ≡ marked (times ∷ []) ((time + by) % period)
  turned_bit fits first less time low =
      let shown : time < 64 = omega (arith, low, small) in
      or_bit (times / 2 ^ by) (times * 2 ^ (period - by) % 2 ^ 64) time
      ∙ elim (cases_lt (time + by) period) [
        | inl near ↦
            let sum : by + time ≡ time + by = omega arith in
            let before : time < period - by = omega (arith, near) in
            or_false _ _ (shl_low times (period - by) time shown before)
            ∙ shr_bit times by time ∙ ap (has_bit times) sum
            ∙ sym (ap (marked (times ∷ [])) (mod-eq_of_lt near)
            ∙ in_word times (time + by) (omega (arith, near, small)))
        | inr far ↦
            let rest : ℕ = time - (period - by) in
            let behind : period - by ≤ time = omega (arith, far) in
            let again : time + by ≡ period + rest = omega (arith, far, less, behind) in
            let few : rest < period = omega (arith, low) in
            ap (λ b. b || has_bit (times * 2 ^ (period - by) % 2 ^ 64) time)
            (shr_bit times by time ∙ none (by + time) (omega (arith, far)))
            ∙ shl_high times (period - by) time shown behind
            ∙ sym (ap (marked (times ∷ [])) (ap (λ n. n % period) again ∙ add-mod_left period rest
            ∙ mod-eq_of_lt few)
            ∙ in_word times rest (omega (arith, few, small)))
      ]
    where
      none : (bit : ℕ) → period ≤ bit → has_bit times bit ≡ false
      none bit late = elim (cases_lt bit 64) [
        | inl low ↦ sym (in_word times bit low) ∙ clear bit late
        | inr high ↦ high_bit times bit fits high
      ]

  pub turned_word : (word : ℕ) → times < 2 ^ 64 → 1 ≤ by → by < period
      → ((bit : ℕ) → bit < 64 → has_bit word bit ≡ (nat_lt bit period
      && has_bit (bit_or (times / 2 ^ by) (times * 2 ^ (period - by) % 2 ^ 64)) bit))
      → (time : ℕ) → marked (word ∷ []) time ≡ turned_to period (times ∷ []) by time
  turned_word word fits first less is time = grind (
    arith,
    cases_lt,
    outside,
    bit_or,
    le-ltb,
    in_word,
    lt-ltb,
    turned_bit,
    within,
  )
