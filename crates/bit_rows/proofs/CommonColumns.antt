-- The common columns of two rows: both rows have a bit there, all such columns are among them, and
-- they rise.
use Rattle.plan_num.proofs.Common.{◌≡◌, ◌∙◌, ℕ, zero, suc, ◌+◌, ◌<◌, Bool, true, List, [], ◌∷◌}
use Rattle.plan_num.proofs.Common.{Contains, filter, inl, inr, ap, arith, range_with_len}
use Rattle.plan_num.proofs.Common.{IsStrictlyIncreasing, and_from, and_parts, cases_Bool, ltb-true}
use Rattle.plan_num.proofs.Common.{All-contains, filter_passes, get_or-range_with_len}
use Rattle.plan_num.proofs.Common.{length-range_with_len, IsStrictlyIncreasing-filter}
use Rattle.bit_rows.specs.Bits.{Bits, common, has}

contains_filter : (p : ℕ → Bool) (xs : List ℕ) (x : ℕ) → Contains xs x → p x ≡ true
    → Contains (filter p xs) x
contains_filter p [] x (k, h, is) passes = absurd (omega (arith, h))
contains_filter p (first ∷ xs) x (zero, h, is) passes =
    rw (ap p is ∙ passes) (zero, omega arith, is)
contains_filter p (first ∷ xs) x (suc k, h, is) passes =
    let rest = contains_filter p xs x (k, omega (arith, h), is) passes in
    elim (cases_Bool (p first)) [
      | inl one ↦ rw one (suc rest.0, omega (arith, rest.1), rest.2)
      | inr one ↦ rw one rest
    ]

range_rises : (n : ℕ) → IsStrictlyIncreasing (range_with_len 0 n)
range_rises n k within = grind (arith, length-range_with_len, get_or-range_with_len)

module _ (bits : Bits) (row : ℕ) (other : Bits) (other_row : ℕ) where
  pub common_sound : (column : ℕ) → Contains (common bits row other other_row) column
      → (column < bits.columns) × (has bits row column ≡ true) × (has other other_row column ≡ true)
  common_sound column at = grind (arith, and_parts, All-contains, filter_passes, ltb-true)

  pub common_all : (column : ℕ) → column < bits.columns → has bits row column ≡ true
      → has other other_row column ≡ true → Contains (common bits row other other_row) column
  common_all column low one two =
      let plain : 0 + column ≡ column = omega arith in
      contains_filter _ (range_with_len 0 bits.columns) column (
        column,
        omega (arith, low, length-range_with_len 0 bits.columns),
        get_or-range_with_len 0 bits.columns column column low ∙ plain,
      ) (and_from _ _ one two)

  pub common_rise : IsStrictlyIncreasing (common bits row other other_row)
  common_rise = IsStrictlyIncreasing-filter _ (range_with_len 0 bits.columns)
      (range_rises bits.columns)
