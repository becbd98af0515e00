-- No field that spells a number is shorter than the number as it is printed.
use Rattle.plan_num.proofs.Common.{◌≡◌, ℕ, ℤ, pos, neg_ℤ, ◌≤ℤ◌, ◌+◌, ◌-◌, ◌*◌, ◌^◌, ◌<◌, ◌≤◌, zero}
use Rattle.plan_num.proofs.Common.{suc, Bool, true, false, List, [], ◌∷◌, length, length-append}
use Rattle.plan_num.proofs.Common.{cond, Option, Some, None, option_map, refl, arith, add-one}
use Rattle.plan_num.proofs.Common.{⊎_elim, decimal, eqb, if◌then◌else◌, before_first, after_first}
use Rattle.plan_num.proofs.Common.{is_ascii_digit, length-take, length-drop, prefix_len-le-length}
use Rattle.plan_num.proofs.Common.{cond_some, ints, cases_lt, lt-ltb, and_parts, div-mul-add}
use Rattle.plan_num.proofs.Common.{mod-mul-add, digits_value_short}
use Rattle.std.proofs.Math.Nat.{mul-le-mul_right}
use Rattle.std.proofs.Math.ListN.{drop_of_length-le}
use Rattle.std.proofs.lemmas.Fmt.{length-decimal-le_wide}
use Rattle.plan_num.specs.Print.{places, digits_at, fraction_text, magnitude_text, fixed_text}
use Rattle.plan_num.specs.Number.{Spelling, is_point, has_minus, magnitude_of, all_digits}
use Rattle.plan_num.specs.Number.{is_numeral, is_magnitude, parts_of, spelling_of, value_of}
use Rattle.plan_num.specs.Number.{value_at, signed, worth_of, number_of}
use Rattle.plan_num.proofs.Digits.{digit_range}
use Rattle.plan_num.proofs.Printed.{AreTens, tens, numerals}
use Rattle.plan_num.proofs.ReadBack.{with_sign}

-- how long a fraction is with its point, where there is one
abbrev dotted : List ℕ → ℕ
dotted [] = 0
dotted (digit ∷ digits) = suc (suc (length digits))

-- the parts of a field with the form of a number
record Parts (bytes whole fraction : List ℕ) : Type 0 where
  digits : all_digits whole ≡ true
  some : 0 < length whole
  behind : all_digits fraction ≡ true
  long : length whole + dotted fraction ≤ length bytes

-- what is printed of a value that digits behind a point have is no longer than they are
value_at-limit : (ps : List ℕ) (limit : ℕ) (digits : List ℕ) → AreTens limit ps
    → all_digits digits ≡ true → value_at ps digits < limit
unfolding value_at
value_at-limit [] limit ds tens h = omega arith
value_at-limit (p ∷ ps) limit [] tens h = omega (arith, tens.0, tens.1)
value_at-limit (p ∷ ps) limit (d ∷ ds) tens h =
    let b = and_parts (is_ascii_digit d) (all_digits ds) h in grind (
      arith,
      digit_range,
      tens,
      mul-le-mul_right,
      value_at-limit ps p ds tens.2 b.1,
    )

-- a list with a first digit, or none, is no longer
one_longer : (value : ℕ) (first : ℕ) (more : List ℕ) (n : ℕ) → length more ≤ n
    → length (cond (eqb value 0) [] (first ∷ more)) ≤ suc n
one_longer value first more n h = grind arith

digits_at-short : (ps : List ℕ) (limit : ℕ) (digits : List ℕ) → AreTens limit ps
    → all_digits digits ≡ true → length (digits_at ps (value_at ps digits)) ≤ length digits
unfolding digits_at value_at
digits_at-short [] limit ds tens h = omega arith
digits_at-short (p ∷ ps) limit [] tens h = omega arith
digits_at-short (p ∷ ps) limit (d ∷ ds) tens h =
    let b = and_parts (is_ascii_digit d) (all_digits ds) h in grind (
      arith,
      one_longer,
      mod-mul-add,
      value_at-limit,
      tens,
      digits_at-short ps p ds tens.2 b.1,
    )

-- the whole part is no longer than the digits that spell it
decimal_short : (whole : List ℕ) → all_digits whole ≡ true → 0 < length whole
    → value_of whole < 10 ^ 64 → length (decimal (value_of whole)) ≤ length whole
decimal_short whole h some fits =
    grind (arith, length-decimal-le_wide, digits_value_short, numerals)

-- nor is the fraction
fraction_short : (fraction : List ℕ) → all_digits fraction ≡ true
    → length (fraction_text (value_at places fraction)) ≤ dotted fraction
unfolding value_at
fraction_short [] h = omega arith
fraction_short (d ∷ ds) h =
    one_longer (value_at places (d ∷ ds)) 46 (digits_at places (value_at places (d ∷ ds)))
    (suc (length ds)) (digits_at-short places 1000000 (d ∷ ds) tens h)

dotted_le : (digits : List ℕ) → dotted digits ≤ suc (length digits)
dotted_le [] = omega arith
dotted_le (d ∷ ds) = omega arith

-- a numeral is digits, and at least one
numeral_parts : (digits : List ℕ) → is_numeral digits ≡ true → (0 < length digits)
    × (all_digits digits ≡ true)
numeral_parts digits h = grind arith

-- the parts of a magnitude
magnitude_parts : (bytes : List ℕ) → is_magnitude bytes ≡ true
    → Parts bytes (before_first is_point bytes) (after_first is_point bytes)
magnitude_parts bytes h =
    grind (
      arith,
      prefix_len-le-length,
      and_parts,
      numeral_parts,
      length-take,
      length-drop,
      ⊎_elim,
      lt-ltb,
      dotted_le,
      drop_of_length-le,
      cases_lt,
    )

-- the parts of what has some
parts_in : (bytes whole fraction : List ℕ) → parts_of bytes ≡ Some (whole, fraction)
    → Parts bytes whole fraction
parts_in bytes whole fraction e =
    let found =
    cond_some (is_magnitude bytes) (before_first is_point bytes, after_first is_point bytes)
    (whole, fraction) e in grind (arith, magnitude_parts)

-- the text of a magnitude is no longer than its parts
magnitude_short : (bytes whole fraction : List ℕ) → Parts bytes whole fraction
    → value_of whole < 10 ^ 64
    → length (magnitude_text (value_of whole * 1000000 + value_at places fraction)) ≤ length bytes
magnitude_short bytes whole fraction parts fits =
    let small = value_at-limit places 1000000 fraction tens parts.behind in grind (
      arith,
      decimal_short,
      fraction_short,
      length-append,
      div-mul-add,
      mod-mul-add,
    )

-- nor is it with a sign
signed_short : (minus : Bool) (magnitude n : ℕ) → length (magnitude_text magnitude) ≤ n
    → length (fixed_text (signed minus magnitude)) ≤ (if minus then suc n else n)
signed_short false magnitude n h = h
signed_short true zero n h = omega arith
signed_short true (suc magnitude) n h = rw add-one (omega (arith, h))

-- how long a field is beside its magnitude
field_long : (field : List ℕ)
    → (if has_minus field then suc (length (magnitude_of field)) else length (magnitude_of field))
    ≡ length field
field_long [] = refl
field_long (byte ∷ bytes) = grind arith

-- a magnitude is within a limit where it is with its sign
signed_within : (minus : Bool) (n : ℕ) → neg_ℤ (pos (10 ^ 37)) ≤ℤ signed minus n
    → signed minus n ≤ℤ pos (10 ^ 37) → n ≤ 10 ^ 37
signed_within false n low high = omega (arith, ints)
signed_within true zero low high = omega arith
signed_within true (suc n) low high = omega (arith, ints)

-- the parts from which a spelling was made
spelled_parts : (parts : Option (List ℕ × List ℕ)) (minus : Bool) (s : Spelling)
    → with_sign minus parts ≡ Some s → (parts ≡ Some (s.whole, s.fraction)) × (s.minus ≡ minus)
spelled_parts None minus s e = cc
spelled_parts (Some p) minus s e = grind arith

-- the number of a spelling is no longer, as it is printed, than the text that has it
spelling_short : (text : List ℕ) (s : Spelling) → spelling_of text ≡ Some s
    → value_of s.whole < 10 ^ 64 → length (fixed_text (worth_of s)) ≤ length text
unfolding spelling_of
spelling_short text s is fits =
    let parts = spelled_parts (parts_of (magnitude_of text)) (has_minus text) s is in
    let short =
    magnitude_short (magnitude_of text) s.whole s.fraction
    (parts_in (magnitude_of text) s.whole s.fraction parts.0) fits in grind (
      arith,
      signed_short,
      field_long,
    )

-- a spelling of a number
spelling_with : (spelling : Option Spelling) (n : ℤ) → option_map worth_of spelling ≡ Some n
    → (s : Spelling) × (spelling ≡ Some s) × (worth_of s ≡ n)
spelling_with None n e = cc
spelling_with (Some s) n e = (s, refl, cc)

-- a text that spells a number is no shorter than the number as it is printed
pub number_shortest : (text : List ℕ) (n : ℤ) → neg_ℤ (pos (10 ^ 37)) ≤ℤ n → n ≤ℤ pos (10 ^ 37)
    → number_of text ≡ Some n → length (fixed_text n) ≤ length text
unfolding number_of
number_shortest text n low high e = grind (arith, spelling_with, signed_within, spelling_short)
