-- Digits and what they are worth.
use Rattle.plan_num.proofs.Common.{◌≡◌, ℕ, ◌+◌, ◌-◌, ◌*◌, ◌<◌, ◌≤◌, zero, suc, Bool, true, List, []}
use Rattle.plan_num.proofs.Common.{◌∷◌, ◌++◌, length, get_or, drop, min, refl, arith, add-one}
use Rattle.plan_num.proofs.Common.{drop-cons, length-append, eqb, leb, unwrap_or, position, cond}
use Rattle.plan_num.proofs.Common.{ltb, Some, None, not, position_or_len, is_ascii_digit, eqb-true}
use Rattle.plan_num.proofs.Common.{and_parts, prefix_len-le-length, nat_tests}
use Rattle.std.proofs.Math.Nat.{pow-suc, mul-le-mul_right}
use Rattle.plan_num.specs.Print.{places}
use Rattle.plan_num.specs.Number.{all_digits, all_zero, value_of, value_at}

-- no digit is worth nothing
pub value_of-none : value_of [] ≡ 0
unfolding value_of
value_of-none = refl

-- one more digit makes ten times as much
pub value_of-push : (digits : List ℕ) (digit : ℕ)
    → value_of (digits ++ digit ∷ []) ≡ value_of digits * 10 + (digit - 48)
unfolding value_of
value_of-push [] digit = omega arith
value_of-push (d ∷ ds) digit =
    rw (length-append ds (digit ∷ []), add-one, pow-suc) (omega (arith, value_of-push ds digit))

-- a digit is between 0 and 9
pub digit_range : (digit : ℕ) → is_ascii_digit digit ≡ true → (48 ≤ digit) × (digit ≤ 57)
digit_range digit h = grind (arith, nat_tests, and_parts (leb 48 digit) (leb digit 57) h)

-- the digit at a place, and what those behind it are worth
pub value_at-turn : (ps digits : List ℕ) (i place digit : ℕ) → i < length ps → i < length digits
    → place ≡ get_or ps i 0 → digit ≡ get_or digits i 0
    → value_at (drop i ps) (drop i digits)
    ≡ place * (digit - 48) + value_at (drop (i + 1) ps) (drop (i + 1) digits)
unfolding value_at
value_at-turn ps digits i place digit p d e f =
    rw (drop-cons ps i 0, drop-cons digits i 0, add-one) (rw (e, f) (omega arith))

-- behind the last place or the last digit nothing is left
pub value_at-end : (ps digits : List ℕ) (i : ℕ) → i ≡ min (length ps) (length digits)
    → value_at (drop i ps) (drop i digits) ≡ 0
unfolding value_at
value_at-end [] ds i e = let none : i ≡ 0 = omega arith in rw none refl
value_at-end (p ∷ ps) [] i e = let none : i ≡ 0 = omega arith in rw none refl
value_at-end (p ∷ ps) (d ∷ ds) zero e = absurd (omega arith)
value_at-end (p ∷ ps) (d ∷ ds) (suc i) e = value_at-end ps ds i (omega arith)

-- nine at each place
abbrev pub nines : List ℕ → ℕ
nines [] = 0
nines (place ∷ places) = 9 * place + nines places

-- digits are worth at most that
pub value_at-small : (ps digits : List ℕ) → all_digits digits ≡ true → value_at ps digits ≤ nines ps
unfolding value_at
value_at-small [] ds h = omega arith
value_at-small (p ∷ ps) [] h = omega arith
value_at-small (p ∷ ps) (d ∷ ds) h =
    let range = digit_range d (and_parts (is_ascii_digit d) (all_digits ds) h).0 in
    let less : d - 48 ≤ 9 = omega (arith, range) in
    omega (
      arith,
      mul-le-mul_right p less,
      value_at-small ps ds
          (and_parts (is_ascii_digit d) (all_digits ds) h).1,
    )

-- zeros are worth nothing
pub value_at-zero : (ps digits : List ℕ) → all_zero digits ≡ true → value_at ps digits ≡ 0
unfolding value_at
value_at-zero [] ds h = refl
value_at-zero (p ∷ ps) [] h = refl
value_at-zero (p ∷ ps) (d ∷ ds) h =
    let zero_digit = eqb-true d 48 (and_parts (eqb d 48) (all_zero ds) h).0 in
    rw zero_digit (omega (arith, value_at-zero ps ds (and_parts (eqb d 48) (all_zero ds) h).1))

-- a place before the end, or the end
place_at : (n m : ℕ) → n ≤ m → unwrap_or (cond (ltb n m) (Some n) None) m ≡ n
place_at n m h = grind arith

-- a place that was found, or the length
pub place_or_length : (p : ℕ → Bool) (xs : List ℕ)
    → unwrap_or (position p xs) (length xs) ≡ position_or_len p xs
place_or_length p xs =
    place_at (position_or_len p xs) (length xs) (prefix_len-le-length (λ x. not (p x)) xs)
