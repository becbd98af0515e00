-- Rows of which all bits are set.
use Rattle.plan_num.proofs.Common.{◌≡◌, ◌∙◌, ◌⊎◌, inl, inr, ℕ, suc, ◌+◌, ◌-◌, ◌*◌, ◌/◌, ◌%◌, ◌^◌}
use Rattle.plan_num.proofs.Common.{◌<◌, ◌≤◌, nat_lt, true, ◌&&◌, List, ◌∷◌, [], ◌++◌, length}
use Rattle.plan_num.proofs.Common.{get_or, ap, sym, subst, arith, get_or-append_seam, and_from}
use Rattle.plan_num.proofs.Common.{cases_lt, lt-ltb, le-ltb, get_or_append_left, length_push}
use Rattle.plan_num.proofs.Common.{mod-mul-add}
use Rattle.std.proofs.Math.Nat.{mul-le-mul_right}
use Rattle.bit_rows.specs.Bits.{AreBits, Bits, has, has_bit, words_of}
use Rattle.bit_rows.proofs.RowBits.{bit_there}
use Rattle.bit_rows.proofs.WordBits.{all_bits}

pub whole_word : (columns index bit word : ℕ) → bit < 64
    → has_bit word bit ≡ (nat_lt bit (columns - 64 * index) && has_bit (2 ^ 64 - 1) bit)
    → has_bit word bit ≡ nat_lt (64 * index + bit) columns
whole_word columns index bit word low is =
    is ∙ ap (λ b. nat_lt bit (columns - 64 * index) && b) (all_bits bit low)
    ∙ inside (cases_lt (64 * index + bit) columns)
  where
    inside : (64 * index + bit < columns) ⊎ (columns ≤ 64 * index + bit)
        → (nat_lt bit (columns - 64 * index) && true) ≡ nat_lt (64 * index + bit) columns
    inside (inl before) =
        ap (λ b. b && true) (lt-ltb bit _ (omega (arith, before))) ∙ sym (lt-ltb _ columns before)
    inside (inr after) =
        ap (λ b. b && true) (le-ltb bit _ (omega (arith, after))) ∙ sym (le-ltb _ columns after)

-- words so far
pub record AreFull (columns : ℕ) (words : List ℕ) (count : ℕ) : Type 0 where
  pub long : length words ≡ count
  pub each : (k bit : ℕ) → k < count → bit < 64
      → has_bit (get_or words k 0) bit ≡ nat_lt (64 * (k % words_of columns) + bit) columns

pub one_word_more : (columns count word : ℕ) (words more : List ℕ) → AreFull columns words count
    → ((bit : ℕ) → bit < 64 → has_bit word bit ≡ nat_lt (64 * (count % words_of columns) + bit)
    columns)
    → more ≡ words ++ word ∷ [] → AreFull columns more (count + 1)
one_word_more columns count word words more so is pushed =
    subst (λ more. AreFull columns more (count + 1)) (sym pushed) (record {
      long = length_push words word ∙ ap (λ n. n + 1) so.long;
      each = λ k bit low small. elim (cases_lt k count) [
        | inl before ↦
            ap (λ word. has_bit word bit)
            (get_or_append_left words (word ∷ []) 0 k (omega (arith, before, so.long)))
            ∙ so.each k bit before small
        | inr last ↦
            let own : k ≡ count = omega (arith, low, last) in
            ap (λ k. has_bit (get_or (words ++ word ∷ []) k 0) bit) (own ∙ sym so.long)
            ∙ ap (λ word. has_bit word bit) (get_or-append_seam words word [] 0) ∙ is bit small
            ∙ ap (λ k. nat_lt (64 * (k % words_of columns) + bit) columns) (sym own)
      ];
    })

-- all words
module _ (columns rows : ℕ) (some : 1 ≤ columns) (few : columns ≤ 1000000) (words : List ℕ)
    (are : AreFull columns words (rows * words_of columns)) where
  abbrev bits : Bits
  bits = record { columns = columns; rows = rows; words = words }

  bit_is : (row column : ℕ) → row < rows → column < 64 * words_of columns
      → bit_there bits row column ≡ nat_lt column columns
  bit_is row column within small =
      let index : column / 64 < words_of columns = omega (arith, small) in
      let far = mul-le-mul_right (words_of columns) (next row within) in
      let after : (suc row) * words_of columns ≡ row * words_of columns + words_of columns =
      omega arith in
      let own = mod-mul-add row (words_of columns) (column / 64) index in
      let is : 64 * ((row * words_of columns + column / 64) % words_of columns) + column % 64
      ≡ column = omega (arith, own) in
      are.each (row * words_of columns + column / 64) (column % 64)
      (omega (arith, far, after, index)) (omega arith)
      ∙ ap (λ t. nat_lt t columns) is
    where
      next : (row : ℕ) → row < rows → suc row ≤ rows
      next row within = omega (arith, within)

  pub are_bits : AreBits bits
  are_bits = grind (arith, bit_is, le-ltb)

  pub all_set : (row column : ℕ) → row < rows → column < columns
      → has bits row column ≡ true
  all_set row column within low = grind (arith, and_from, nat_lt, lt-ltb, bit_is)
