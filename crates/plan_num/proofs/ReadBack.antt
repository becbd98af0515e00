-- A printed number is read back.
use Rattle.plan_num.proofs.Common.{◌≡◌, ℕ, ℤ, pos, neg_ℤ, negsuc, ◌+◌, ◌*◌, ◌/◌, ◌%◌, ◌^◌, ◌<◌, ◌≤◌}
use Rattle.plan_num.proofs.Common.{◌≤ℤ◌, ◌∙◌, ◌++◌, suc, Bool, true, false, List, [], ◌∷◌, Option}
use Rattle.plan_num.proofs.Common.{Some, option_map, option_and_then, refl, ap, append-nil, add-one}
use Rattle.plan_num.proofs.Common.{arith, decimal, ne_eqb, ⊎_elim, list_all, is_ascii_digit}
use Rattle.plan_num.proofs.Common.{signed_decimal, ints, and-false, cases_lt, le-ltb, and_parts}
use Rattle.plan_num.proofs.Common.{both_true}
use Rattle.plan_num.specs.Print.{places, digits_at, fraction_text, magnitude_text, fixed_text}
use Rattle.plan_num.specs.Number.{has_minus, is_number_byte, all_digits}
use Rattle.plan_num.specs.Number.{parts_of, spelling_of, signed}
use Rattle.plan_num.specs.Number.{is_beyond, worth_of, whole_from, number_of, fixed_of, whole_of}
use Rattle.plan_num.specs.Number.{Spelling}
use Rattle.plan_num.proofs.Printed.{tens, decimal_digits, decimal_value, decimal_some}
use Rattle.plan_num.proofs.Printed.{digits_at-digits, value_at-digits_at, no_minus, parts_of-digits}
use Rattle.plan_num.proofs.Printed.{parts_of-printed}
use Rattle.plan_num.proofs.Places.{digits_of_zero}

-- the parts of a printed number
abbrev pub printed : Bool → ℕ → Spelling
printed minus n =
    record {
      minus = minus;
      whole = decimal (n / 1000000);
      fraction = digits_at places (n % 1000000);
    }

-- a sign and the parts of a text
abbrev pub with_sign : Bool → Option (List ℕ × List ℕ) → Option Spelling
with_sign minus parts =
    option_map (λ p. record { minus = minus; whole = p.0; fraction = p.1 }) parts

printed_parts : (minus : Bool) (n : ℕ) → n < 10 ^ 64
    → with_sign minus (parts_of (magnitude_text n)) ≡ Some (printed minus n)
printed_parts minus n h = grind (arith, parts_of-printed, decimal_digits, decimal_some)

-- a printed number has these parts
spelling_positive : (n : ℕ) → n < 10 ^ 64
    → spelling_of (fixed_text (pos n)) ≡ Some (printed false n)
unfolding spelling_of
spelling_positive n h =
    let fits : n / 1000000 < 10 ^ 64 = omega arith in
    let bare =
    no_minus (decimal (n / 1000000)) (fraction_text (n % 1000000))
    (decimal_digits (n / 1000000) fits) (decimal_some (n / 1000000) fits) in
    rw bare (printed_parts false n h)

spelling_negative : (n : ℕ) → n + 1 < 10 ^ 64
    → spelling_of (fixed_text (negsuc n)) ≡ Some (printed true (n + 1))
unfolding spelling_of
spelling_negative n h = printed_parts true (n + 1) h

-- and they are worth the number
worth_back : (minus : Bool) (n : ℕ) → n < 10 ^ 64 → worth_of (printed minus n) ≡ signed minus n
worth_back minus n h =
    let fits : n / 1000000 < 10 ^ 64 = omega arith in
    let same : n / 1000000 * 1000000 + n % 1000000 ≡ n = omega arith in
    let digits = value_at-digits_at places 1000000 (n % 1000000) tens (omega arith) in
    rw (decimal_value (n / 1000000) fits, digits) (ap (signed minus) same)

-- a printed number spells the number
pub number_back : (n : ℤ) → neg_ℤ (pos (10 ^ 37)) ≤ℤ n → n ≤ℤ pos (10 ^ 37)
    → number_of (fixed_text n) ≡ Some n
unfolding number_of
number_back (pos n) low high = grind (arith, ints, spelling_positive, worth_back)
number_back (negsuc n) low high = grind (arith, ints, spelling_negative, worth_back, add-one)

-- no more than the limit is within it
not_beyond : (minus : Bool) (n : ℕ) → n ≤ 1000000000000000000 → is_beyond (printed minus n) ≡ false
not_beyond minus n h =
    grind (arith, decimal_value, le-ltb, ⊎_elim, ne_eqb, digits_of_zero, and-false, cases_lt)

-- a printed number of millionths is read back
pub fixed_back : (millionths : ℤ) → neg_ℤ (pos 1000000000000000000) ≤ℤ millionths
    → millionths ≤ℤ pos 1000000000000000000 → fixed_of (fixed_text millionths) ≡ Some millionths
unfolding fixed_of
fixed_back (pos n) low high =
    let small : n ≤ 1000000000000000000 = omega (arith, ints) in
    rw (spelling_positive n (omega arith))
    (rw (not_beyond false n small) (ap Some (worth_back false n (omega arith))))
fixed_back (negsuc n) low high =
    let small : n + 1 ≤ 1000000000000000000 = omega (arith, ints) in
    rw (spelling_negative n (omega arith))
    (rw (not_beyond true (n + 1) small)
    (ap Some (worth_back true (n + 1) (omega arith) ∙ rw add-one refl)))

-- what a sign and printed digits are read as
whole_magnitude_back : (minus : Bool) (n : ℕ) → n ≤ 1000000000000000000
    → option_and_then whole_from (with_sign minus (parts_of (decimal n))) ≡ Some (signed minus n)
whole_magnitude_back minus n h =
    let fits : n < 10 ^ 64 = omega arith in
    rw (parts_of-digits (decimal n) (decimal_digits n fits) (decimal_some n fits))
    (rw (decimal_value n fits) (rw (le-ltb 1000000000000000000 n h) refl))

-- a printed whole number is read back
pub whole_back : (n : ℤ) → neg_ℤ (pos 1000000000000000000) ≤ℤ n → n ≤ℤ pos 1000000000000000000
    → whole_of (signed_decimal n) ≡ Some n
unfolding whole_of spelling_of
whole_back (pos n) low high =
    let fits : n < 10 ^ 64 = omega (arith, ints) in
    let bare = no_minus (decimal n) [] (decimal_digits n fits) (decimal_some n fits) in
    let bare' : has_minus (decimal n) ≡ false = rw append-nil at bare in
    rw bare' (whole_magnitude_back false n (omega (arith, ints)))
whole_back (negsuc n) low high = whole_magnitude_back true (suc n) (omega (arith, ints)) ∙ refl

-- a digit is such a byte
digit_byte : (digit : ℕ) → is_ascii_digit digit ≡ true → is_number_byte digit ≡ true
digit_byte digit h = rw h refl

-- digits, and then others of such bytes, are such bytes
digits_bytes : (digits rest : List ℕ) → all_digits digits ≡ true
    → list_all is_number_byte rest ≡ true → list_all is_number_byte (digits ++ rest) ≡ true
digits_bytes [] rest h more = more
digits_bytes (d ∷ ds) rest h more =
    let b = and_parts (is_ascii_digit d) (all_digits ds) h in
    both_true (digit_byte d b.0) (digits_bytes ds rest b.1 more)

-- a printed whole number has digits, and a minus in front
pub whole_bytes : (n : ℤ) → neg_ℤ (pos 1000000000000000000) ≤ℤ n → n ≤ℤ pos 1000000000000000000
    → list_all is_number_byte (signed_decimal n) ≡ true
whole_bytes (pos n) low high =
    let bytes = digits_bytes (decimal n) [] (decimal_digits n (omega (arith, ints))) refl in
    rw append-nil at bytes
whole_bytes (negsuc n) low high =
    let bytes =
    digits_bytes (decimal (suc n)) [] (decimal_digits (suc n) (omega (arith, ints))) refl in
    rw append-nil at bytes

-- a printed fraction has a point and digits
fraction_bytes : (fraction : ℕ) → fraction < 1000000
    → list_all is_number_byte (fraction_text fraction) ≡ true
fraction_bytes fraction small =
    let digits =
    digits_bytes (digits_at places fraction) []
    (digits_at-digits places 1000000 fraction tens small) refl in grind (
      arith,
      ⊎_elim,
      ne_eqb,
      append-nil,
      cases_lt,
    )

-- a printed number of millionths without a sign has digits and a point
pub magnitude_bytes : (millionths : ℕ) → millionths < 10 ^ 64
    → list_all is_number_byte (magnitude_text millionths) ≡ true
magnitude_bytes millionths fits = grind (arith, digits_bytes, decimal_digits, fraction_bytes)

-- a printed number of millionths has digits, a minus in front, and a point
pub fixed_bytes : (millionths : ℤ) → neg_ℤ (pos 1000000000000000000) ≤ℤ millionths
    → millionths ≤ℤ pos 1000000000000000000 → list_all is_number_byte (fixed_text millionths) ≡ true
fixed_bytes (pos n) low high = magnitude_bytes n (omega (arith, ints))
fixed_bytes (negsuc n) low high = magnitude_bytes (n + 1) (omega (arith, ints))
