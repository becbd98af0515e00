-- The number that a field of a table spells.
use Rattle.std.specs.Prelude.{ℕ, ℤ, pos, neg_ℤ, ◌+◌, ◌-◌, ◌*◌, ◌^◌, ◌==◌, ◌&&◌, ◌||◌, nat_lt, not}
use Rattle.std.specs.Prelude.{if◌then◌else◌, Bool, false, List, [], ◌∷◌, length, drop}
use Rattle.std.specs.Prelude.{Option, Some, None, option_map, option_and_then}
use Rattle.std.specs.List.{before_first, after_first, position_or_len, list_all}
use Rattle.std.specs.Char.{is_ascii_digit}
use Rattle.plan_num.specs.Print.{places}
use Rattle.plan_num.specs.declared.number.TheConstants.{NUMBER_LIMIT}

-- a number as it is written: its sign, the digits before the point, and those after it
pub record Spelling : Type 0 where
  pub minus : Bool
  pub whole : List ℕ
  pub fraction : List ℕ

abbrev pub is_point : ℕ → Bool
is_point byte = byte == 46

abbrev pub has_point : List ℕ → Bool
has_point bytes = nat_lt (position_or_len is_point bytes) (length bytes)

abbrev pub has_minus : List ℕ → Bool
has_minus [] = false
has_minus (byte ∷ bytes) = byte == 45

-- a byte that a printed number may have: a digit, a minus or a point
abbrev pub is_number_byte : ℕ → Bool
is_number_byte byte = is_ascii_digit byte || is_point byte || byte == 45

-- a field without the minus in front
abbrev pub magnitude_of : List ℕ → List ℕ
magnitude_of field = if has_minus field then drop 1 field else field

-- nothing but digits
abbrev pub all_digits : List ℕ → Bool
all_digits bytes = list_all is_ascii_digit bytes

-- one digit or more, and nothing else
abbrev pub is_numeral : List ℕ → Bool
is_numeral digits = nat_lt 0 (length digits) && all_digits digits

-- digits, and optionally a point with digits behind it
abbrev pub is_magnitude : List ℕ → Bool
is_magnitude bytes =
    is_numeral (before_first is_point bytes)
    && (not (has_point bytes) || is_numeral (after_first is_point bytes))

-- the digits before a point and those behind it
abbrev pub parts_of : List ℕ → Option (List ℕ × List ℕ)
parts_of bytes =
    if is_magnitude bytes
    then Some (before_first is_point bytes, after_first is_point bytes)
    else None

-- the parts of a field that has the form of a number
unfoldable pub spelling_of : List ℕ → Option Spelling
spelling_of field =
    option_map (λ p. record { minus = has_minus field; whole = p.0; fraction = p.1 })
    (parts_of (magnitude_of field))

-- what digits are worth, each by its place
unfoldable pub value_of : List ℕ → ℕ
value_of [] = 0
value_of (digit ∷ digits) = (digit - 48) * 10 ^ length digits + value_of digits

-- what the digits behind a point are worth at these places; those behind the last place are dropped
unfoldable pub value_at : List ℕ → List ℕ → ℕ
value_at (place ∷ more) (digit ∷ digits) = (digit - 48) * place + value_at more digits
value_at _ _ = 0

-- nothing but zeros
abbrev pub all_zero : List ℕ → Bool
all_zero digits = list_all (λ digit. digit == 48) digits

abbrev pub signed : Bool → ℕ → ℤ
signed minus n = if minus then neg_ℤ (pos n) else pos n

-- the greatest number that may be written in a field of fixed numbers, and in one of whole numbers
abbrev pub fixed_limit : ℕ
fixed_limit = 1000000000000

abbrev pub whole_limit : ℕ
whole_limit = NUMBER_LIMIT

-- the written magnitude is more than the limit of fixed numbers
abbrev pub is_beyond : Spelling → Bool
is_beyond s =
    nat_lt fixed_limit (value_of s.whole)
    || ((value_of s.whole == fixed_limit) && not (all_zero s.fraction))

-- the millionths that a written number is worth, of which digits behind the sixth are dropped
abbrev pub worth_of : Spelling → ℤ
worth_of s = signed s.minus (value_of s.whole * 1000000 + value_at places s.fraction)

-- the same, where the number is within the limit
abbrev pub fixed_from : Spelling → Option ℤ
fixed_from s = if is_beyond s then None else Some (worth_of s)

-- a written number that is whole
abbrev pub whole_from : Spelling → Option ℤ
whole_from s =
    if all_zero s.fraction && not (nat_lt whole_limit (value_of s.whole))
    then Some (signed s.minus (value_of s.whole))
    else None

-- the millionths that a text spells, however many they are
unfoldable pub number_of : List ℕ → Option ℤ
number_of text = option_map worth_of (spelling_of text)

-- the millionths that a field spells, and the whole number that it spells
unfoldable pub fixed_of : List ℕ → Option ℤ
fixed_of field = option_and_then fixed_from (spelling_of field)

unfoldable pub whole_of : List ℕ → Option ℤ
whole_of field = option_and_then whole_from (spelling_of field)
