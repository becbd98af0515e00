-- The digits of printed numbers, and the parts of their texts.
use Rattle.plan_num.proofs.Common.{◌≡◌, ℕ, ◌+◌, ◌-◌, ◌*◌, ◌/◌, ◌%◌, ◌^◌, ◌<◌, ◌≤◌, ◌∙◌, ◌++◌, ◌||◌}
use Rattle.plan_num.proofs.Common.{true, false, List, [], ◌∷◌, length, not, Some, refl, append-nil}
use Rattle.plan_num.proofs.Common.{arith, rules, decimal, ne_eqb, ⊎_elim, before_first, after_first}
use Rattle.plan_num.proofs.Common.{position_or_len, is_ascii_digit, take-length, take-append_seam}
use Rattle.plan_num.proofs.Common.{cases_lt, lt-ltb, le-ltb, and_parts, nat_tests, both_true}
use Rattle.std.proofs.lemmas.Str.Parse.{IsDigitsTest, IsNumeralModel, numerals_by_weight}
use Rattle.std.proofs.lemmas.Fmt.{decimal_is_IsNumeral_wide}
use Rattle.std.proofs.Math.Nat.{div-lt_iff_lt-mul}
use Rattle.std.proofs.Math.Bool.{or-true}
use Rattle.std.proofs.Math.Seq.{drop-append-add}
use Rattle.std.proofs.Math.ListN.{drop_of_length-le}
use Rattle.plan_num.specs.Print.{places, digits_at, fraction_text}
use Rattle.plan_num.specs.Number.{is_point, has_point, has_minus, all_digits}
use Rattle.plan_num.specs.Number.{is_numeral, parts_of, value_of, value_at}
use Rattle.plan_num.proofs.Digits.{digit_range}
use Rattle.plan_num.proofs.Places.{digits_of_zero}

abbrev pub AreDigits : List ℕ → Type 0
AreDigits digits = all_digits digits ≡ true

-- a number between those of '0' and '9' is a digit
pub is_digit : (digit : ℕ) → 48 ≤ digit → digit ≤ 57 → is_ascii_digit digit ≡ true
is_digit digit low high = search (rules, nat_tests)

-- digits, and what they are worth, are those of std's numerals
tells_digits : IsDigitsTest AreDigits
tells_digits = grind arith

pub numerals : IsNumeralModel AreDigits value_of
unfolding value_of
numerals = grind (arith, numerals_by_weight, tells_digits)

-- a printed whole number is a numeral of its value
pub decimal_digits : (n : ℕ) → n < 10 ^ 64 → all_digits (decimal n) ≡ true
decimal_digits n h = numerals.from (decimal n) (decimal_is_IsNumeral_wide n h).0.1

pub decimal_value : (n : ℕ) → n < 10 ^ 64 → value_of (decimal n) ≡ n
decimal_value n h =
    let k = decimal_is_IsNumeral_wide n h in numerals.same (decimal n) k.0.1 ∙ k.1

pub decimal_some : (n : ℕ) → n < 10 ^ 64 → 0 < length (decimal n)
decimal_some n h = (decimal_is_IsNumeral_wide n h).0.0

-- each limit is ten times its place, and the next limit is that place
abbrev pub AreTens : ℕ → List ℕ → Type 0
AreTens limit [] = limit ≡ 1
AreTens limit (place ∷ places) = (limit ≡ 10 * place) × (0 < place) × AreTens place places

-- a rest below ten times a place has one digit there
one_digit : (place rest : ℕ) → 0 < place → rest < 10 * place
    → is_ascii_digit (48 + rest / place) ≡ true
one_digit place rest h lt = grind (arith, div-lt_iff_lt-mul, is_digit)

-- a digit at its place and what is left make the rest
digit_and_rest : (place rest more : ℕ) → 0 < place → more ≡ rest % place
    → (48 + rest / place - 48) * place + more ≡ rest
digit_and_rest place rest more h e = grind arith

pub tens : AreTens 1000000 places
tens = grind arith

-- the digits that are printed behind a point are digits
pub digits_at-digits : (ps : List ℕ) (limit rest : ℕ) → AreTens limit ps → rest < limit
    → all_digits (digits_at ps rest) ≡ true
unfolding digits_at
digits_at-digits [] limit rest tens h = refl
digits_at-digits (p ∷ ps) limit rest tens h =
    grind (
      arith,
      ⊎_elim,
      ne_eqb,
      one_digit,
      tens,
      cases_lt,
      digits_at-digits ps p (rest % p) tens.2 (omega (arith, tens.1)),
    )

-- and are worth what they were printed of
pub value_at-digits_at : (ps : List ℕ) (limit rest : ℕ) → AreTens limit ps → rest < limit
    → value_at ps (digits_at ps rest) ≡ rest
unfolding digits_at value_at
value_at-digits_at [] limit rest tens h = omega arith
value_at-digits_at (p ∷ ps) limit rest tens h =
    grind (
      arith,
      ⊎_elim,
      ne_eqb,
      digit_and_rest,
      tens,
      cases_lt,
      value_at-digits_at ps p (rest % p) tens.2 (omega (arith, tens.1)),
    )

-- a digit is no point
not_point : (digit : ℕ) → is_ascii_digit digit ≡ true → is_point digit ≡ false
not_point digit h = let range = digit_range digit h in ne_eqb digit 46 (λ e. omega (arith, range))

-- no point stands in digits
pub no_point : (digits : List ℕ) → all_digits digits ≡ true
    → position_or_len is_point digits ≡ length digits
no_point [] h = refl
no_point (d ∷ ds) h =
    let b = and_parts (is_ascii_digit d) (all_digits ds) h in
    rw (not_point d b.0) (rw (no_point ds b.1) (omega arith))

-- the first point stands behind the digits before it
pub point_behind : (digits rest : List ℕ) → all_digits digits ≡ true
    → position_or_len is_point (digits ++ 46 ∷ rest) ≡ length digits
point_behind [] rest h = refl
point_behind (d ∷ ds) rest h =
    let b = and_parts (is_ascii_digit d) (all_digits ds) h in
    rw (not_point d b.0) (rw (point_behind ds rest b.1) (omega arith))

-- digits, and at least one, are a numeral
numeral : (digits : List ℕ) → all_digits digits ≡ true → 0 < length digits
    → is_numeral digits ≡ true
numeral digits h some = both_true (lt-ltb 0 (length digits) some) h

-- the parts of a text, from what stands before its point and behind it
parts_are : (bytes whole fraction : List ℕ) → before_first is_point bytes ≡ whole
    → after_first is_point bytes ≡ fraction → is_numeral whole ≡ true
    → (not (has_point bytes) || is_numeral fraction) ≡ true
    → parts_of bytes ≡ Some (whole, fraction)
parts_are bytes whole fraction e f n h = rw (e, f) (rw (both_true n h) refl)

-- the parts of digits alone
pub parts_of-digits : (digits : List ℕ) → all_digits digits ≡ true → 0 < length digits
    → parts_of digits ≡ Some (digits, [])
parts_of-digits digits h some =
    grind (arith, parts_are, no_point, take-length, drop_of_length-le, numeral, le-ltb)

-- the parts of digits, a point and digits
pub parts_of-pointed : (whole fraction : List ℕ) → all_digits whole ≡ true → 0 < length whole
    → all_digits fraction ≡ true → 0 < length fraction
    → parts_of (whole ++ 46 ∷ fraction) ≡ Some (whole, fraction)
parts_of-pointed whole fraction w some f more =
    grind (arith, parts_are, point_behind, take-append_seam, drop-append-add, numeral, or-true)

-- what begins with a digit has no minus in front
pub no_minus : (digits rest : List ℕ) → all_digits digits ≡ true → 0 < length digits
    → has_minus (digits ++ rest) ≡ false
no_minus [] rest h some = absurd (omega arith)
no_minus (d ∷ ds) rest h some = grind arith

-- a rest that is not 0 has a digit
digits_some : (p : ℕ) (ps : List ℕ) (rest : ℕ) → 0 < rest → 0 < length (digits_at (p ∷ ps) rest)
unfolding digits_at
digits_some p ps rest h = rw (ne_eqb rest 0 (omega arith)) (omega arith)

-- the parts of digits with a fraction behind them
pub parts_of-printed : (whole : List ℕ) (fraction : ℕ) → all_digits whole ≡ true → 0 < length whole
    → fraction < 1000000
    → parts_of (whole ++ fraction_text fraction) ≡ Some (whole, digits_at places fraction)
parts_of-printed whole fraction w some small =
    grind (
      arith,
      ⊎_elim,
      ne_eqb,
      parts_of-pointed,
      digits_at-digits,
      tens,
      digits_some,
      append-nil,
      digits_of_zero,
      parts_of-digits,
      cases_lt,
    )
