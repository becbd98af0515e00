-- Bits of words, and of lists of words.
use Rattle.plan_num.proofs.Common.{◌≡◌, ◌∙◌, ◌⊎◌, inl, inr, ℕ, suc, ◌+◌, ◌-◌, ◌*◌, ◌/◌, ◌%◌, ◌^◌}
use Rattle.plan_num.proofs.Common.{◌<◌, ◌≤◌, ◌==◌, if◌then◌else◌, nat_lt, bit_and, bit_or, w64}
use Rattle.plan_num.proofs.Common.{Bool, true, false, ◌&&◌, ◌||◌, List, get_or, Some, None, refl}
use Rattle.plan_num.proofs.Common.{ap, sym, arith, bit_at, leading_zeros, cases_eq, cases_lt}
use Rattle.plan_num.proofs.Common.{eq-eqb, eqb-true, ne_eqb, false≢true, lt-ltb, le-ltb, and_parts}
use Rattle.plan_num.proofs.Common.{ltb-true, pow-succ', div-mul-add, pow_pos}
use Rattle.std.specs.Int.{trailing_zeros}
use Rattle.std.proofs.Math.Bool.{and_comm}
use Rattle.std.proofs.lemmas.Nat.{leading_top}
use Rattle.std.proofs.lemmas.Nat.{one_shl, shr-shr}
use Rattle.std.proofs.lemmas.Nat.Bits.{bit_at-lt, bit_at-zero, bit_at_above, bit_at_and}
use Rattle.std.proofs.lemmas.Nat.Bits.{bit_at_cat_high}
use Rattle.std.proofs.lemmas.Nat.Bits.{bit_at_cat_low, bit_at_clear_other, bit_at_clear_same}
use Rattle.std.proofs.lemmas.Nat.Bits.{bit_at-pow_other, bit_at-pow_same, bit_at_ones}
use Rattle.std.proofs.lemmas.Nat.Bits.{bit_at_ones_above, bit_at_or, bit_at_set_other}
use Rattle.std.proofs.lemmas.Nat.Bits.{bit_at_set_same, bit_at-trailing_zeros}
use Rattle.bit_rows.specs.Bits.{IsFirstBit, IsLastBit, has_bit, marked, one_bit, with_bit}

-- ---- a bit as a number

same_bit : (a i b j : ℕ) → bit_at a i ≡ bit_at b j → has_bit a i ≡ has_bit b j
unfolding has_bit
same_bit a i b j same = ap (λ n. n == 1) same

pub set_is : (word bit : ℕ) → has_bit word bit ≡ true → bit_at word bit ≡ 1
unfolding has_bit
set_is word bit is = eqb-true _ _ is

pub set_from : (word bit : ℕ) → bit_at word bit ≡ 1 → has_bit word bit ≡ true
unfolding has_bit
set_from word bit is = eq-eqb _ _ is

pub unset_from : (word bit : ℕ) → bit_at word bit ≡ 0 → has_bit word bit ≡ false
unfolding has_bit
unset_from word bit is = ne_eqb _ _ (λ one. absurd (omega (arith, is, one)))

one_or_none : (word bit : ℕ) → (bit_at word bit ≡ 0) ⊎ (bit_at word bit ≡ 1)
one_or_none word bit = grind arith

pub unset_is : (word bit : ℕ) → has_bit word bit ≡ false → bit_at word bit ≡ 0
unset_is word bit is = grind (arith, one_or_none, false≢true, set_from)

-- ---- operations

pub or_bit : (a b i : ℕ) → has_bit (bit_or a b) i ≡ (has_bit a i || has_bit b i)
or_bit a b i = grind (arith, one_or_none, set_from, bit_at_or, bit_at-lt, same_bit, unset_from)

pub and_bit : (a b i : ℕ) → has_bit (bit_and a b) i ≡ (has_bit a i && has_bit b i)
and_bit a b i = grind (arith, one_or_none, same_bit, bit_at_and, bit_at-lt, set_from, unset_from)

pub zero_bit : (bit : ℕ) → has_bit 0 bit ≡ false
zero_bit bit = unset_from 0 bit (bit_at-zero bit)

pub high_bit : (word bit : ℕ) → word < 2 ^ 64 → 64 ≤ bit → has_bit word bit ≡ false
high_bit word bit fits high = unset_from word bit (bit_at_above word 64 bit fits high)

pub shr_bit : (word k bit : ℕ) → has_bit (word / 2 ^ k) bit ≡ has_bit word (k + bit)
shr_bit word k bit = same_bit _ bit word (k + bit) (ap (λ n. n % 2) (shr-shr word k bit))

-- the low bits of a word
cut_bit : (word n bit : ℕ) → bit < n → bit_at (word % 2 ^ n) bit ≡ bit_at word bit
cut_bit word n bit low =
    let whole : word ≡ word / 2 ^ n * 2 ^ n + word % 2 ^ n = omega (arith, pow_pos n) in
    sym (bit_at_cat_low (word / 2 ^ n) n (word % 2 ^ n) bit low)
    ∙ ap (λ w. bit_at w bit) (sym whole)

shl_is : (word k bit : ℕ) → bit < 64
    → bit_at (word * 2 ^ k % 2 ^ 64) bit ≡ bit_at (word * 2 ^ k + 0) bit
shl_is word k bit low =
    let same : word * 2 ^ k ≡ word * 2 ^ k + 0 = omega arith in
    cut_bit (word * 2 ^ k) 64 bit low ∙ ap (λ w. bit_at w bit) same

pub shl_low : (word k bit : ℕ) → bit < 64 → bit < k → has_bit (word * 2 ^ k % 2 ^ 64) bit ≡ false
shl_low word k bit low below =
    unset_from _ bit (shl_is word k bit low ∙ bit_at_cat_low word k 0 bit below ∙ bit_at-zero bit)

pub shl_high : (word k bit : ℕ) → bit < 64 → k ≤ bit
    → has_bit (word * 2 ^ k % 2 ^ 64) bit ≡ has_bit word (bit - k)
shl_high word k bit low above = grind (arith, same_bit, shl_is, bit_at_cat_high, pow_pos)

pub mask_bit : (k bit : ℕ) → k < 64 → has_bit (1 * 2 ^ k % 2 ^ 64 - 1) bit ≡ nat_lt bit k
mask_bit k bit low =
    ap (λ mask. has_bit (mask - 1) bit) (one_shl k 64 low)
    ∙ elim (cases_lt bit k) [
      | inl below ↦ set_from _ bit (bit_at_ones k bit below) ∙ sym (lt-ltb bit k below)
      | inr above ↦ unset_from _ bit (bit_at_ones_above k bit above) ∙ sym (le-ltb bit k above)
    ]

pub or_none : (x y : Bool) → y ≡ false → (x || y) ≡ x
or_none true y is = refl
or_none false y is = is

pub cut_low : (word count bit : ℕ) → count < 64
    → has_bit (bit_and word (1 * 2 ^ count % 2 ^ 64 - 1)) bit ≡ (nat_lt bit count
    && has_bit word bit)
cut_low word count bit few = grind (arith, and_bit, mask_bit, and_comm, nat_lt)

pub bit_of_one : (k bit : ℕ) → k < 64 → has_bit (one_bit k) bit ≡ (bit == k)
bit_of_one k bit low =
    ap (λ word. has_bit word bit) (one_shl k 64 low)
    ∙ elim (cases_eq bit k) [
      | inl same ↦
          set_from (2 ^ k) bit (ap (bit_at (2 ^ k)) same ∙ bit_at-pow_same k)
          ∙ sym (eq-eqb bit k same)
      | inr other ↦ unset_from (2 ^ k) bit (bit_at-pow_other k bit other) ∙ sym (ne_eqb bit k other)
    ]

pub all_bits : (bit : ℕ) → bit < 64 → has_bit (2 ^ 64 - 1) bit ≡ true
all_bits bit low = set_from (2 ^ 64 - 1) bit (bit_at_ones 64 bit low)

-- ---- a bit that is set or not

pub with_same : (word bit : ℕ) (is : Bool) → bit < 64 → has_bit (with_bit word bit is) bit ≡ is
unfolding with_bit
with_same word bit true low = set_from _ bit (bit_at_set_same w64 word bit low)
with_same word bit false low = unset_from _ bit (bit_at_clear_same w64 word bit low)

pub with_other : (word bit other : ℕ) (is : Bool) → bit < 64 → other < 64 → (other ≡ bit → ⊥)
    → has_bit (with_bit word bit is) other ≡ has_bit word other
unfolding with_bit
with_other word bit other true low small apart =
    same_bit _ other word other (bit_at_set_other w64 word bit low other apart)
with_other word bit other false low small apart =
    same_bit _ other word other (bit_at_clear_other w64 word bit low other small apart)

-- ---- the first bit from one on

pub no_first : (word from : ℕ) → word / 2 ^ from ≡ 0 → IsFirstBit word from None
no_first word from none bit low small =
    let at : from + (bit - from) ≡ bit = omega (arith, low) in
    ap (has_bit word) (sym at) ∙ sym (shr_bit word from (bit - from))
    ∙ ap (λ w. has_bit w (bit - from)) none ∙ zero_bit (bit - from)

pub first_is : (word from rest : ℕ) → from < 64 → word < 2 ^ 64 → rest ≡ word / 2 ^ from
    → (rest ≡ 0 → ⊥)
    → rest < 2 ^ 64 → IsFirstBit word from (Some (from + trailing_zeros w64 rest))
first_is word from rest low fits is some small =
    let lowest = bit_at-trailing_zeros w64 rest (omega (arith, some)) small in
    let first = trailing_zeros w64 rest in
    let set : has_bit word (from + first) ≡ true =
    sym (shr_bit word from first) ∙ ap (λ w. has_bit w first) (sym is)
    ∙ set_from rest first lowest.1 in (
      omega arith,
      under (from + first) set,
      set,
      λ bit above below.
          let at : from + (bit - from) ≡ bit = omega (arith, above) in
          let less : bit - from < first = omega (arith, above, below) in
          ap (has_bit word) (sym at) ∙ sym (shr_bit word from (bit - from))
          ∙ ap (λ w. has_bit w (bit - from)) (sym is)
          ∙ unset_from rest (bit - from) (lowest.2 (bit - from) less),
    )
  where
    under : (bit : ℕ) → has_bit word bit ≡ true → bit < 64
    under bit set = elim (cases_lt bit 64) [
      | inl low ↦ low
      | inr high ↦ absurd (false≢true (sym (high_bit word bit fits high) ∙ set))
    ]

-- ---- the last bit before one, of a word that is cut there

module _ (word rest end : ℕ)
    (is : (bit : ℕ) → bit < 64 → has_bit rest bit ≡ (nat_lt bit end && has_bit word bit)) where
  before_end : (bit : ℕ) → bit < 64 → bit < end → has_bit word bit ≡ has_bit rest bit
  before_end bit small low =
      sym (ap (λ b. b && has_bit word bit) (lt-ltb bit end low)) ∙ sym (is bit small)

  pub no_last : rest ≡ 0 → IsLastBit word end None
  no_last none bit small low =
      before_end bit small low ∙ ap (λ w. has_bit w bit) none ∙ zero_bit bit

  pub last_is : (last : ℕ) → (rest ≡ 0 → ⊥) → rest < 2 ^ 64 → last ≡ 63 - leading_zeros w64 rest
      → IsLastBit word end (Some last)
  last_is last some fits own =
      let top = leading_top 64 rest (omega (arith, some)) fits in
      let same : last ≡ top.0 = (let whole = top.1 in omega (arith, own, whole)) in
      let small : last < 64 = omega (arith, own) in
      let set : has_bit rest last ≡ true =
      ap (has_bit rest) same ∙ set_from rest top.0 (top_bit top.0 top.2 top.3) in
      let both = and_parts (nat_lt last end) _ (sym (is last small) ∙ set) in (
        ltb-true last end both.0,
        small,
        both.1,
        λ bit few above low.
            before_end bit few low
            ∙ unset_from rest bit (bit_at_above rest (suc top.0) bit top.3 (omega (
              arith,
              above,
              same,
            ))),
      )
    where
      top_bit : (top : ℕ) → 2 ^ top ≤ rest → rest < 2 ^ suc top → bit_at rest top ≡ 1
      top_bit top low high =
          let twice = pow-succ' 2 top in
          let whole : rest ≡ 1 * 2 ^ top + (rest - 2 ^ top) = omega (arith, low) in
          let part : rest - 2 ^ top < 2 ^ top = omega (arith, low, high, twice) in
          ap (λ n. n % 2) (ap (λ n. n / 2 ^ top) whole
          ∙ div-mul-add 1 (2 ^ top) (rest - 2 ^ top) part)

-- ---- the bits from a place on

pub joined_bit : (first second past bit : ℕ) → first < 2 ^ 64 → past < 64 → bit < 64
    → has_bit (bit_or (first / 2 ^ past) (second * 2 ^ (64 - past) % 2 ^ 64)) bit
    ≡ (if nat_lt (past + bit) 64 then has_bit first (past + bit) else has_bit second (past + bit -
    64))
joined_bit first second past bit fits few low =
    grind (arith, or_bit, cases_lt, or_none, shl_low, shr_bit, lt-ltb, high_bit, shl_high, le-ltb)

pub from_place : (words : List ℕ) (place bit : ℕ) → bit < 64
    → (if nat_lt (place % 64 + bit) 64 then has_bit (get_or words (place / 64) 0) (place % 64 + bit)
    else has_bit (get_or words (place / 64 + 1) 0) (place % 64 + bit - 64))
    ≡ marked words (place + bit)
from_place words place bit low = grind arith

pub from_word : (words : List ℕ) (place bit : ℕ) → place % 64 ≡ 0 → bit < 64
    → has_bit (get_or words (place / 64) 0) bit ≡ marked words (place + bit)
from_word words place bit none low = grind arith
