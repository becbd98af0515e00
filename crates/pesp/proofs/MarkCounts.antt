-- How many bits are set, and how many times are left.
use Rattle.plan_num.proofs.Common.{get_or, slice_set, ◌≡◌, ◌∙◌, ℕ, zero, suc, ◌+◌, ◌-◌, ◌*◌, ◌/◌}
use Rattle.plan_num.proofs.Common.{◌%◌, ◌^◌, ◌<◌, ◌≤◌, cond, nat_lt, count_ones, Bool, false, ◌&&◌}
use Rattle.plan_num.proofs.Common.{List, length, filter, refl, ap, sym, arith, bit_at}
use Rattle.plan_num.proofs.Common.{range_with_len, cases_Bool, cases_eq, cases_lt, lt-ltb, le-ltb}
use Rattle.plan_num.proofs.Common.{get_or-set_other, get_or-set_same, pow_pos}
use Rattle.std.specs.Int.Count.{ones}
use Rattle.std.proofs.Math.Nat.{mod-eq_of_lt, mod-lt}
use Rattle.std.proofs.lemmas.Nat.{mod-pow-add, ones-le, ones_cat}
use Rattle.bit_rows.specs.Bits.{has_bit, marked, word_of, words_of}
use Rattle.bit_rows.proofs.RowBits.{bit_there}
use Rattle.bit_rows.proofs.WordBits.{set_is, unset_is}
use Rattle.pesp.specs.Marks.{AreMarks, Marks, is_left, times_from}
use Rattle.pesp.specs.Revising.{count_below}
use Rattle.pesp.proofs.WindowSums.{count_start}

count_next : (test : ℕ → Bool) (n : ℕ)
    → count_below test (suc n) ≡ count_below test n + cond (test n) 1 0
unfolding count_below
count_next test n = refl

count_same : (test other : ℕ → Bool) (from n : ℕ)
    → ((k : ℕ) → from ≤ k → k < from + n → test k ≡ false)
    → count_below test (from + n) ≡ count_below test from
count_same test other from zero none =
    let same : from + 0 ≡ from = omega arith in ap (count_below test) same
count_same test other from (suc n) none =
    let same : from + suc n ≡ suc (from + n) = omega arith in grind (
      arith,
      count_next,
      count_same
          test other from n (λ k low high. none k low (omega (arith, high))),
    )

-- ---- the bits of a word

none_set : count_ones 0 ≡ 0
unfolding ones
none_set = refl

one_set : count_ones 1 ≡ 1
unfolding ones
one_set = refl

one_of : (word bit : ℕ) → count_ones (bit_at word bit) ≡ cond (has_bit word bit) 1 0
one_of word bit = grind (arith, cases_Bool, count_ones, set_is, one_set, unset_is, none_set)

low_ones : (test : ℕ → Bool) (from word n : ℕ) → ((bit : ℕ) → bit < n
    → test (from + bit) ≡ has_bit word bit)
    → count_below test (from + n) ≡ count_below test from + count_ones (word % 2 ^ n)
low_ones test from word zero same = grind (arith, count_ones, none_set)
low_ones test from word (suc n) same =
    let rest = low_ones test from word n (λ bit low. same bit (omega (arith, low))) in
    let next : from + suc n ≡ suc (from + n) = omega arith in
    let step : suc n ≡ 1 + n = omega arith in
    let all = ap (count_below test) next in
    let last = count_next test (from + n) in
    let bit = ap (λ (b : Bool). cond {A = ℕ} b 1 0) (same n (omega arith)) in
    let ones = ap (λ k. count_ones (word % 2 ^ k)) step ∙ ap count_ones (mod-pow-add word 1 n)
    ∙ ones_cat n (word / 2 ^ n % 2 ^ 1) (word % 2 ^ n) (mod-lt word (pow_pos n)) in
    let one = one_of word n in
    omega (arith, rest, all, last, bit, ones, one)

pub word_counted : (sets : Marks) (event index word : ℕ) → word < 2 ^ 64
    → ((time : ℕ) → time / 64 ≡ index → word_of sets event time ≡ word)
    → count_below (bit_there sets event) (64 * (index + 1))
    ≡ count_below (bit_there sets event) (64 * index) + count_ones word
word_counted sets event index word fits is =
    let end : 64 * (index + 1) ≡ 64 * index + 64 = omega arith in
    ap (count_below (bit_there sets event)) end
    ∙ low_ones (bit_there sets event) (64 * index) word 64 (λ bit low. here bit low)
    ∙ ap (λ word. count_below (bit_there sets event) (64 * index) + count_ones word) (mod-eq_of_lt
    fits)
  where
    here : (bit : ℕ) → bit < 64 → bit_there sets event (64 * index + bit) ≡ has_bit word bit
    here bit low = grind arith

-- ---- the times that are left

filtered : (left test : ℕ → Bool) (from n : ℕ) → ((k : ℕ) → k < from + n → left k ≡ test k)
    → count_below test from + length (filter left (range_with_len from n)) ≡ count_below test
    (from + n)
filtered left test from zero same = grind arith
filtered left test from (suc n) same =
    let next : from + 1 + n ≡ from + suc n = omega arith in
    let own : from + 1 ≡ suc from = omega arith in grind (
      arith,
      count_next,
      cases_Bool,
      filtered
          left test (from + 1) n (λ k low. same k (omega (arith, low))),
    )

pub all_counted : (sets : Marks) (event index count : ℕ) → AreMarks sets → event < sets.rows
    → index ≡ words_of sets.columns → count ≡ count_below (bit_there sets event) (64 * index)
    → count ≡ length (times_from sets event 0)
all_counted sets event index count are inside all is =
    let rest : sets.columns + (64 * index - sets.columns) ≡ 64 * index = omega (arith, all) in
    let same = ap (count_below (bit_there sets event)) rest in
    let none = count_same (bit_there sets event) (bit_there sets event) sets.columns (64 * index -
    sets.columns)
    (λ k low high. are.bits.clear event k inside low (omega (arith, high, all, rest))) in
    let left = filtered (is_left sets event) (bit_there sets event) 0 sets.columns
    (λ k low. ap (λ b. b && bit_there sets event k) (lt-ltb k sets.columns (omega (arith, low)))) in
    let start = count_start (bit_there sets event) in
    let whole : 0 + sets.columns ≡ sets.columns = omega arith in
    let ends = ap (count_below (bit_there sets event)) whole in
    let none_before : sets.columns - 0 ≡ sets.columns = omega arith in
    let times = ap (λ n. length (filter (is_left sets event) (range_with_len 0 n))) none_before in
    omega (arith, is, same, none, left, start, ends, times)

pub none_counted : (sets : Marks) (event : ℕ) → 0 ≡ count_below (bit_there sets event) (64 * 0)
none_counted sets event = sym (count_start (bit_there sets event))

pub ones_few : (word : ℕ) → word < 2 ^ 64 → count_ones word ≤ 64
ones_few word fits = ones-le 64 word fits

pub no_first : (test : ℕ → Bool) (time : ℕ) → false ≡ (nat_lt time (64 * 0) && test time)
no_first test time = grind arith

-- ---- the words of an event

abbrev pub copied_below : Marks → ℕ → ℕ → ℕ → Bool
copied_below sets event end time = nat_lt time end && bit_there sets event time

pub one_copied : (sets : Marks) (event index word : ℕ) (times : List ℕ) → index < length times
    → ((time : ℕ) → time / 64 ≡ index → word_of sets event time ≡ word)
    → ((time : ℕ) → marked times time ≡ copied_below sets event (64 * index) time) → (time : ℕ)
    → marked (slice_set times index word) time ≡ copied_below sets event (64 * (index + 1)) time
one_copied sets event index word times within is so time = grind (
  arith,
  cases_eq,
  get_or,
  slice_set,
  get_or-set_same,
  bit_there,
  lt-ltb,
  get_or-set_other,
  cases_lt,
  nat_lt,
  le-ltb,
)

pub all_copied : (sets : Marks) (event index : ℕ) → AreMarks sets → event < sets.rows
    → index ≡ words_of sets.columns → (time : ℕ)
    → copied_below sets event (64 * index) time ≡ is_left sets event time
all_copied sets event index are inside all time = grind (arith, cases_lt, bit_there, lt-ltb, le-ltb)
