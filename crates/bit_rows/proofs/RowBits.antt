-- Rows of bits, of which one word is replaced or one bit is put.
use Rattle.plan_num.proofs.Common.{◌≡◌, ◌∙◌, ℕ, ◌+◌, ◌*◌, ◌/◌, ◌%◌, ◌<◌, ◌≤◌, ◌==◌, nat_lt, Bool}
use Rattle.plan_num.proofs.Common.{false, ◌&&◌, List, length, get_or, All, if◌then◌else◌, ap, sym}
use Rattle.plan_num.proofs.Common.{arith, and_right, cases_eq, cases_lt, eq-eqb, le-ltb, lt-ltb}
use Rattle.plan_num.proofs.Common.{get_or-set_other, get_or-set_same, get_or_past, div-mul-add}
use Rattle.std.proofs.Math.Nat.{mul-le-mul_right}
use Rattle.bit_rows.specs.Bits.{AreBits, Bits, FitsAt, has, has_bit, place_of, with_bit, with_word}
use Rattle.bit_rows.specs.Bits.{word_of, words_of}
use Rattle.bit_rows.proofs.WordBits.{with_other, with_same, zero_bit}

-- the bit of a column, whether it is one of the rows or behind them
abbrev pub bit_there : Bits → ℕ → ℕ → Bool
bit_there bits row column = has_bit (word_of bits row column) (column % 64)

-- ---- places

pub place_low : (bits : Bits) (row index : ℕ) → AreBits bits → row < bits.rows
    → index < words_of bits.columns → row * words_of bits.columns + index < length bits.words
place_low bits row index are inside low = grind arith

pub same_row : (width r i row index : ℕ) → i < width → index < width
    → r * width + i ≡ row * width + index → (r ≡ row) × (i ≡ index)
same_row width r i row index low small same =
    let own : r ≡ row = sym (div-mul-add r width i low) ∙ ap (λ n. n / width) same
    ∙ div-mul-add row width index small in
    (own, let rest = ap (λ r. r * width) own in omega (arith, same, rest))

-- up to the end of its last word a row has the bits of its words
pub bit_is : (bits : Bits) (row column : ℕ) → AreBits bits → row < bits.rows
    → column < 64 * words_of bits.columns → has bits row column ≡ bit_there bits row column
bit_is bits row column are inside small = grind arith

-- ---- none

module _ (rows columns : ℕ) (few : columns ≤ 1000000) (words : List ℕ)
    (zeros : All (λ word. word ≡ 0) words) where
  abbrev bits : Bits
  bits = record { rows = rows; columns = columns; words = words }

  none_there : (row column : ℕ) → bit_there bits row column ≡ false
  none_there row column = grind (arith, cases_lt, zero_bit, get_or_past)

  pub are_none : length words ≡ rows * words_of columns → AreBits bits
  are_none long = grind (arith, none_there)

  pub has_none : (row column : ℕ) → has bits row column ≡ false
  has_none row column = and_right (nat_lt column columns) _ (none_there row column)

-- ---- one word

module _ (bits : Bits) (place word : ℕ) (there : place < length bits.words) where
  abbrev now : Bits
  now = with_word bits place word

  pub this_word : (r c : ℕ) → place_of bits.columns r c ≡ place → word_of now r c ≡ word
  this_word r c at =
      ap (λ place. get_or now.words place 0) at ∙ get_or-set_same bits.words place word 0 there

  pub other_word : (r c : ℕ) → (place_of bits.columns r c ≡ place → ⊥)
      → word_of now r c ≡ word_of bits r c
  other_word r c apart =
      get_or-set_other bits.words place (place_of bits.columns r c) word 0 apart

-- ---- one bit

module _ (bits : Bits) (row column place old new : ℕ) (is : Bool) (are : AreBits bits)
    (inside : row < bits.rows) (within : column < bits.columns)
    (at : place ≡ row * words_of bits.columns + column / 64) (was : old ≡ get_or bits.words place 0)
    (put : new ≡ with_bit old (column % 64) is) where
  there : place < length bits.words
  there = let low = place_low bits row (column / 64) are inside (omega (arith, within)) in
      omega (arith, low, at)

  -- a column with its word at the place
  read : (r c : ℕ) → place_of bits.columns r c ≡ place → bit_there bits r c ≡ has_bit old (c % 64)
  read r c same =
      ap (λ word. has_bit word (c % 64)) (ap (λ place. get_or bits.words place 0) same ∙ sym was)

  -- another column with its word at the place
  beside : (r c : ℕ) → c < 64 * words_of bits.columns → place_of bits.columns r c ≡ place
      → ((r ≡ row) × (c ≡ column) → ⊥) → has_bit new (c % 64) ≡ bit_there bits r c
  beside r c few same apart =
      let own = same_row (words_of bits.columns) r (c / 64) row (column / 64) (omega (arith, few))
      (omega (arith, within)) (same ∙ at) in
      let bits_differ : c % 64 ≡ column % 64 → ⊥ = λ equal. apart (
        own.0,
        (let index = own.1 in
            omega (arith, equal, index)),
      ) in
      ap (λ word. has_bit word (c % 64)) put
      ∙ with_other old (column % 64) (c % 64) is (omega arith) (omega arith) bits_differ
      ∙ sym (read r c same)

  pub fits : FitsAt bits.rows bits.columns place new
  fits r c low high few same = grind (arith, beside)

  abbrev after : Bits
  after = with_word bits place new

  here : bit_there after row column ≡ is
  here = grind (arith, this_word, there, with_same)

  elsewhere : (r c : ℕ) → c < 64 * words_of bits.columns → ((r ≡ row) × (c ≡ column) → ⊥)
      → bit_there after r c ≡ bit_there bits r c
  elsewhere r c few apart = grind (arith, cases_eq, this_word, there, beside, other_word)

  is_other : (r c : ℕ) → ((r ≡ row) × (c ≡ column) → ⊥) → ((r == row) && (c == column)) ≡ false
  is_other r c apart = grind arith

  other_kept : (r c : ℕ) → ((r ≡ row) × (c ≡ column) → ⊥) → has after r c ≡ has bits r c
  other_kept r c apart = grind (arith, cases_lt, nat_lt, elsewhere, le-ltb)

  pub bit_put : (r c : ℕ) → has after r c
      ≡ (if (r == row) && (c == column) then is else has bits r c)
  bit_put r c = grind (arith, cases_eq, other_kept, is_other, lt-ltb, here, eq-eqb)
