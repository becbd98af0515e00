-- Fields of digits alone.
use Rattle.plan_num.proofs.Common.{◌≡◌, ℕ, pos, ◌^◌, ◌<◌, ◌≤◌, ◌-◌, ◌+◌, ◌*◌, true, List, length}
use Rattle.plan_num.proofs.Common.{length-take, take, get_or, Some, ap, ◌∙◌, arith, sym, add-zero}
use Rattle.plan_num.proofs.Common.{append-nil, is_ascii_digit, le-ltb, ne_eqb, take_all, take_more}
use Rattle.plan_num.proofs.Common.{list_all-append, digits_value_short}
use Rattle.plan_num.specs.Number.{all_digits, spelling_of, value_of, value_at, fixed_of, whole_of}
use Rattle.plan_num.proofs.Digits.{value_of-push}
use Rattle.plan_num.proofs.Printed.{no_minus, numerals, parts_of-digits}
use Rattle.text_fields.specs.Rows.{without_blanks, without_quotes}
use Rattle.tables.proofs.PlainBytes.{IsCell, all_weaker, cell_unblanked, cell_unquoted, is_plain}
use Rattle.tables.proofs.CellTexts.{number_plain}

-- few digits are worth little
pub few_digits : (digits : List ℕ) → all_digits digits ≡ true → length digits ≤ 18
    → value_of digits < 10 ^ 18
few_digits digits h few = digits_value_short numerals digits 18 h few

-- one digit more
pub more_digits : (field : List ℕ) (i : ℕ) → i < length field
    → is_ascii_digit (get_or field i 0) ≡ true → all_digits (take i field) ≡ true
    → (all_digits (take (i + 1) field) ≡ true) × (value_of (take (i + 1) field)
    ≡ value_of (take i field) * 10 + (get_or field i 0 - 48))
more_digits field i inside digit h =
    let more = take_more field i 0 inside in grind (arith, list_all-append, get_or, value_of-push)

-- digits alone spell what they are worth
digits_whole : (field : List ℕ) → all_digits field ≡ true → 0 < length field
    → value_of field < 10 ^ 18 → whole_of field ≡ Some (pos (value_of field))
unfolding whole_of spelling_of
digits_whole field h some small = grind (arith, no_minus, append-nil, parts_of-digits, le-ltb)

-- and as many millionths as a million times that
digits_fixed : (field : List ℕ) → all_digits field ≡ true → 0 < length field
    → value_of field < 1000000000000
    → fixed_of field ≡ Some (pos (value_of field * 1000000))
unfolding fixed_of spelling_of value_at
digits_fixed field h some small =
    grind (arith, no_minus, append-nil, parts_of-digits, le-ltb, ne_eqb, add-zero)

-- behind a space or none a text of a cell is the whole field
pub cell_field : (piece front : List ℕ) → without_blanks front ≡ without_blanks piece
    → IsCell front → without_quotes (without_blanks piece) ≡ front
cell_field piece front same cell =
    ap without_quotes (sym same ∙ cell_unblanked front cell) ∙ cell_unquoted front cell

digits_field : (piece front : List ℕ) → without_blanks front ≡ without_blanks piece
    → 0 < length front → all_digits front ≡ true → without_quotes (without_blanks piece) ≡ front
digits_field piece front same some digits =
    grind (arith, IsCell, all_weaker, is_plain, number_plain, cell_field)

-- so digits behind a space or none spell a whole number, and one in millionths
module _ (piece front : List ℕ) (same : without_blanks front ≡ without_blanks piece) (value : ℕ)
    (some : 0 < length front) (digits : all_digits front ≡ true) (is : value ≡ value_of front) where
  pub plain_whole_is : value < 10 ^ 18
      → whole_of (without_quotes (without_blanks piece)) ≡ Some (pos value)
  plain_whole_is small = grind (arith, digits_field, digits_whole)

  pub plain_fixed_is : value < 1000000000000
      → fixed_of (without_quotes (without_blanks piece)) ≡ Some (pos (value * 1000000))
  plain_fixed_is small = grind (arith, digits_field, digits_fixed)

-- so are those so far, of a field of few
pub small_so_far : (field : List ℕ) (i value : ℕ) → length field ≤ 18
    → all_digits (take i field) ≡ true → value ≡ value_of (take i field) → value < 10 ^ 18
small_so_far field i value few digits is =
    rw is (few_digits (take i field) digits (omega (arith, few, length-take i field)))

-- behind the last byte they are all
pub all_so_far : (field : List ℕ) (i value : ℕ) → length field ≤ i
    → all_digits (take i field) ≡ true → value ≡ value_of (take i field)
    → (all_digits field ≡ true) × (value ≡ value_of field)
all_so_far field i value past digits is =
    let whole = take_all i field past in (rw whole at digits, rw whole at is)
