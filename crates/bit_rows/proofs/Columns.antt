-- Columns that pass a test, word by word.
use Rattle.plan_num.proofs.Common.{◌≡◌, ◌∙◌, inl, inr, ℕ, zero, suc, ◌+◌, ◌-◌, ◌*◌, ◌/◌, ◌%◌, ◌<◌}
use Rattle.plan_num.proofs.Common.{◌≤◌, Bool, true, false, cond, ◌&&◌, List, [], ◌∷◌, ◌++◌, map}
use Rattle.plan_num.proofs.Common.{filter, Some, bit_and, w64, refl, ap, sym, arith}
use Rattle.plan_num.proofs.Common.{range_with_len, cases_eq, false≢true, le-ltb, append-nil}
use Rattle.plan_num.proofs.Common.{append_assoc, filter-append, and_le_l}
use Rattle.std.specs.Int.{bit_not}
use Rattle.bit_rows.specs.Bits.{AreBits, Bits, IsFirstBit, common, has, has_bit, one_bit, places_in}
use Rattle.bit_rows.specs.Bits.{with_bit, word_of, words_of}
use Rattle.bit_rows.proofs.RowBits.{bit_is, bit_there}
use Rattle.bit_rows.proofs.WordBits.{and_bit, with_other, with_same}
use Rattle.plan_num.proofs.Parts.{none_of_range, range_parts}

-- ---- filters of ranges

pub same_filter : (test other : ℕ → Bool) (from n : ℕ)
    → ((x : ℕ) → from ≤ x → x < from + n → test x ≡ other x)
    → filter test (range_with_len from n) ≡ filter other (range_with_len from n)
same_filter test other from zero same = refl
same_filter test other from (suc n) same =
    let first = same from (omega arith) (omega arith) in
    let rest = same_filter test other (from + 1) n
    (λ x low high. same x (omega (arith, low)) (omega (arith, high))) in
    λ i. cond (first i) (from ∷ rest i) (rest i)

-- the first that passes a test, and those that pass another one, which it alone does not pass
first_apart : (test other : ℕ → Bool) (from n first : ℕ) → from ≤ first → first < from + n
    → test first ≡ true → other first ≡ false
    → ((x : ℕ) → from ≤ x → x < first → test x ≡ false)
    → ((x : ℕ) → from ≤ x → x < from + n → (x ≡ first → ⊥) → other x ≡ test x)
    → filter test (range_with_len from n) ≡ first ∷ filter other (range_with_len from n)
first_apart test other from zero first low high is not none same = absurd (omega (arith, low, high))
first_apart test other from (suc n) first low high is not none same =
    let numbers = range_with_len (from + 1) n in
    elim (cases_eq from first) [
      | inl own ↦
          let rest = same_filter test other (from + 1) n
          (λ x above below. sym (same x (omega (arith, above)) (omega (arith, below))
          (λ equal. absurd (omega (arith, equal, own, above))))) in
          (λ i. cond ((ap test own ∙ is) i) (from ∷ rest i) (rest i))
          ∙ (λ i. own i ∷ filter other numbers)
          ∙ sym (λ i. first ∷ cond ((ap other own ∙ not) i) (from ∷ filter other numbers)
          (filter other numbers))
      | inr apart ↦
          let no = none from (omega arith) (omega (arith, low, apart)) in
          let rest = first_apart test other (from + 1) n first (omega (arith, low, apart))
          (omega (arith, high)) is not (λ x above below. none x (omega (arith, above)) below)
          (λ x above below. same x (omega (arith, above)) (omega (arith, below))) in
          (λ i. cond (no i) (from ∷ rest i) (rest i))
          ∙ sym (λ i. first ∷ cond ((same from (omega arith) (omega arith) apart ∙ no) i)
          (from ∷ filter other numbers) (filter other numbers))
    ]

-- numbers that pass a test, counted from another place on
moved : (test there : ℕ → Bool) (start from n : ℕ)
    → ((x : ℕ) → from ≤ x → x < from + n → test x ≡ there (start + x))
    → map (λ x. start + x) (filter test (range_with_len from n))
    ≡ filter there (range_with_len (start + from) n)
moved test there start from zero same = refl
moved test there start from (suc n) same =
    let next : start + (from + 1) ≡ start + from + 1 = omega arith in
    let rest = moved test there start (from + 1) n
    (λ x low high. same x (omega (arith, low)) (omega (arith, high)))
    ∙ ap (λ from. filter there (range_with_len from n)) next in
    ap (λ b. map (λ x. start + x) (cond b (from ∷ filter test (range_with_len (from + 1) n))
    (filter test (range_with_len (from + 1) n)))) (same from (omega arith) (omega arith))
    ∙ by (there (start + from)) _ _ rest
  where
    by : (is : Bool) (xs ys : List ℕ) → map (λ x. start + x) xs ≡ ys
        → map (λ x. start + x) (cond is (from ∷ xs) xs) ≡ cond is ((start + from) ∷ ys) ys
    by true xs ys same = ap (λ rest. (start + from) ∷ rest) same
    by false xs ys same = same

-- ---- the bits of a word, one after the other

pub one_place : (start word bit left : ℕ) → IsFirstBit word 0 (Some bit)
    → left ≡ with_bit word bit false → places_in start word ≡ (start + bit) ∷ places_in start left
one_place start word bit left first is =
    let few : bit < 64 = first.1 in
    ap (map (λ bit. start + bit))
    (first_apart (has_bit word) (has_bit left) 0 64 bit (omega arith) (omega (arith, few)) first.2
    (ap (λ w. has_bit w bit) is ∙ with_same word bit false few) first.3
    (λ other low high apart. ap (λ w. has_bit w other) is
    ∙ with_other word bit other false few (omega (arith, high)) apart))

pub one_fewer : (word bit left : ℕ) → IsFirstBit word 0 (Some bit)
    → left ≡ with_bit word bit false → left < word
unfolding with_bit
one_fewer word bit left first is =
    let no_more = and_le_l word (bit_not w64 (one_bit bit)) in
    let other : left ≡ word → ⊥ = λ same. false≢true (sym (with_same word bit false first.1)
    ∙ ap (λ w. has_bit w bit) (sym is ∙ same) ∙ first.2) in
    omega (arith, is, no_more, other)

-- the places so far, and those of the bits that are left
pub place_pushed : (found more all : List ℕ) (start word bit left : ℕ)
    → IsFirstBit word 0 (Some bit) → left ≡ with_bit word bit false
    → more ≡ found ++ (start + bit) ∷ [] → found ++ places_in start word ≡ all
    → more ++ places_in start left ≡ all
place_pushed found more all start word bit left first is pushed so =
    ap (λ more. more ++ places_in start left) pushed
    ∙ append_assoc found ((start + bit) ∷ []) (places_in start left)
    ∙ ap (λ places. found ++ places) (sym (one_place start word bit left first is)) ∙ so

-- ---- the common columns of two rows, word by word

module _ (bits : Bits) (row : ℕ) (other : Bits) (other_row : ℕ) where
  abbrev both : ℕ → Bool
  both column = has bits row column && has other other_row column

  -- the common columns before one
  abbrev common_to : ℕ → List ℕ
  common_to end = filter both (range_with_len 0 end)

  pub all_common : (index : ℕ) → words_of bits.columns ≤ index
      → common_to (64 * index) ≡ common bits row other other_row
  all_common index end =
      let size : 64 * index ≡ bits.columns + (64 * index - bits.columns) = omega (arith, end) in
      ap common_to size
      ∙ ap (filter both) (range_parts 0 bits.columns (64 * index - bits.columns))
      ∙ filter-append both (range_with_len 0 bits.columns) _
      ∙ ap (λ rest. common bits row other other_row ++ rest) (none_of_range both (0 + bits.columns)
      (64 * index - bits.columns) (λ column low _. past column (omega (arith, low))))
      ∙ append-nil _
    where
      past : (column : ℕ) → bits.columns ≤ column → both column ≡ false
      past column high =
          λ i. (le-ltb column bits.columns high i && bit_there bits row column)
          && has other other_row column

  module _ (same : other.columns ≡ bits.columns) (are : AreBits bits) (others : AreBits other)
      (inside : row < bits.rows) (within : other_row < other.rows) where
    one_word_common : (index word one two : ℕ) → index < words_of bits.columns
        → word ≡ bit_and one two
        → ((column : ℕ) → column / 64 ≡ index → word_of bits row column ≡ one)
        → ((column : ℕ) → column / 64 ≡ index → word_of other other_row column ≡ two)
        → common_to (64 * (index + 1)) ≡ common_to (64 * index) ++ places_in (64 * index) word
    one_word_common index word one two low is first second =
        let size : 64 * (index + 1) ≡ 64 * index + 64 = omega arith in
        let start : 64 * index + 0 ≡ 0 + 64 * index = omega arith in
        ap common_to size ∙ ap (filter both) (range_parts 0 (64 * index) 64)
        ∙ filter-append both (range_with_len 0 (64 * index)) (range_with_len (0 + 64 * index) 64)
        ∙ ap (λ rest. common_to (64 * index) ++ rest)
        (sym (moved (has_bit word) both (64 * index) 0 64
        (λ bit _ high. at bit (omega (arith, high)))
        ∙ ap (λ start. filter both (range_with_len start 64)) start))
      where
        at : (bit : ℕ) → bit < 64 → has_bit word bit ≡ both (64 * index + bit)
        at bit few =
            let own : (64 * index + bit) / 64 ≡ index = omega (arith, few) in
            let place : (64 * index + bit) % 64 ≡ bit = omega (arith, few) in
            let end : 64 * index + bit < 64 * words_of bits.columns = omega (arith, few, low) in
            let other_end : 64 * index + bit < 64 * words_of other.columns = omega (
              arith,
              few,
              low,
              same,
            ) in
            ap (λ w. has_bit w bit) is ∙ and_bit one two bit
            ∙ sym ((λ i. bit_is bits row (64 * index + bit) are inside end i
            && bit_is other other_row (64 * index + bit) others within other_end i)
            ∙ (λ i. has_bit (first (64 * index + bit) own i) (place i)
            && has_bit (second (64 * index + bit) own i) (place i)))

    pub word_pushed : (index word one two : ℕ) (before found more : List ℕ)
        → index < words_of bits.columns → word ≡ bit_and one two
        → ((column : ℕ) → column / 64 ≡ index → word_of bits row column ≡ one)
        → ((column : ℕ) → column / 64 ≡ index → word_of other other_row column ≡ two)
        → more ≡ found ++ places_in (64 * index) word → found ≡ before ++ common_to (64 * index)
        → more ≡ before ++ common_to (64 * (index + 1))
    word_pushed index word one two before found more low is first second pushed so =
        grind (arith, append_assoc, one_word_common)
