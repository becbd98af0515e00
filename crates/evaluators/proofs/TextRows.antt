-- The rows of the text of a statistic.
use Rattle.plan_num.proofs.Common.{◌≡◌, ◌<◌, ◌≤ℤ◌, ◌^◌, ◌+◌, ℕ, ℤ, pos, negsuc, neg_ℤ, true, List}
use Rattle.plan_num.proofs.Common.{[], ◌∷◌, ◌++◌, length, map, refl, ap, sym, ◌∙◌, arith, codes}
use Rattle.plan_num.proofs.Common.{ne_eqb, append-nil, append_assoc, length-append, flat_map}
use Rattle.plan_num.proofs.Common.{list_all, ints}
use Rattle.plan_num.specs.Number.{is_number_byte}
use Rattle.plan_num.specs.Print.{fixed_text}
use Rattle.plan_num.proofs.Printed.{decimal_some}
use Rattle.plan_num.proofs.ReadBack.{magnitude_bytes}
use Rattle.text_fields.specs.Rows.{Row, parts_of, rows}
use Rattle.tables.specs.Writing.{joined}
use Rattle.tables.proofs.Common.{number_plain, plain_word, plain_header, AreCells, IsCell}
use Rattle.tables.proofs.Common.{all_weaker, cells_quiet, cells_row, is_plain, line_cut, line_some}
use Rattle.tables.proofs.Common.{quiet_line, quiet_stripped}
use Rattle.text_fields.proofs.RowsLeft.{all_left, numbered_step, rows_left}
use Rattle.evaluators.specs.declared.measure.Measure.{Measure}
use Rattle.evaluators.specs.declared.measure.Measure.TheVariants as measure
use Rattle.evaluators.specs.declared.statistic.Statistic.{Statistic}
use Rattle.evaluators.specs.Bounds.{IsSmall}
use Rattle.evaluators.specs.Statistic.{measure_name, measures, value_of}
use Rattle.evaluators.specs.StatisticStage.{statistic_text, value_line}

-- ---- printed numbers have bytes of numbers alone

-- a number that can be printed
abbrev pub IsPrintable : ℤ → Type 0
IsPrintable n = (neg_ℤ (pos (10 ^ 37)) ≤ℤ n) × (n ≤ℤ pos (10 ^ 37))

number_bytes : (n : ℤ) → IsPrintable n → list_all is_number_byte (fixed_text n) ≡ true
number_bytes (pos n) h = magnitude_bytes n (omega (arith, ints, h.1))
number_bytes (negsuc n) h = magnitude_bytes (n + 1) (omega (arith, ints, h.0))

number_some : (n : ℤ) → IsPrintable n → 0 < length (fixed_text n)
number_some (pos n) h = grind (arith, decimal_some, ints, length-append)
number_some (negsuc n) h = omega arith

number_cell : (n : ℤ) → IsPrintable n → IsCell (fixed_text n)
number_cell n h = record {
  some = number_some n h;
  plain = all_weaker is_number_byte is_plain (fixed_text n) number_plain (number_bytes n h);
}

-- ---- names

name_cell : (m : Measure) → IsCell (measure_name m)
name_cell measure.LineCost = plain_word _ refl
name_cell _ = plain_word _ refl

-- ---- values

pub value_printable : (all : Statistic) → IsSmall all → (m : Measure) → IsPrintable (value_of all m)
value_printable all small measure.LineCost = (omega (arith, ints), omega (arith, ints, small.lines))
value_printable all small measure.RunningLines =
    (omega (arith, ints), omega (arith, ints, small.running))
value_printable all small measure.PeriodicEvents =
    (omega (arith, ints), omega (arith, ints, small.events))
value_printable all small measure.PeriodicActivities =
    (omega (arith, ints), omega (arith, ints, small.activities))
value_printable all small measure.DriveMinutes =
    (omega (arith, ints), omega (arith, ints, small.drive))
value_printable all small measure.WaitMinutes =
    (omega (arith, ints), omega (arith, ints, small.wait))
value_printable all small measure.ChangeMinutes =
    (omega (arith, ints), omega (arith, ints, small.change))
value_printable all small measure.Trips = (omega (arith, ints), omega (arith, ints, small.trips))
value_printable all small measure.Vehicles =
    (omega (arith, ints), omega (arith, ints, small.vehicles))
value_printable all small measure.EmptyMinutes =
    (omega (arith, ints), omega (arith, ints, small.empty))
value_printable all small measure.ScheduleCost =
    (omega (arith, ints), omega (arith, ints, small.schedule))
value_printable all small measure.TotalDelay =
    (omega (arith, ints, small.early), omega (arith, ints, small.late))
value_printable all small measure.GreatestDelay =
    (omega (arith, ints), omega (arith, ints, small.greatest))
value_printable all small measure.MissedChanges =
    (omega (arith, ints), omega (arith, ints, small.missed))

-- ---- lines

module _ (all : Statistic) (small : IsSmall all) where
  abbrev cells : Measure → List (List ℕ)
  cells m = measure_name m ∷ fixed_text (value_of all m) ∷ []

  -- a line is its two cells, joined
  line_is : (name number rest : List ℕ) → (name ++ codes "; " ++ number ++ 10 ∷ []) ++ rest
      ≡ joined (name ∷ number ∷ []) ++ 10 ∷ rest
  unfolding joined
  line_is name number rest = grind (arith, append_assoc, append-nil)

  lines_left : (number : ℕ) (some : List Measure)
      → map (λ row. row.fields) (rows_left number (parts_of (flat_map (value_line all) some)))
      ≡ map cells some
  unfolding rows_left
  lines_left number [] = refl
  lines_left number (m ∷ some) =
      let value = fixed_text (value_of all m) in
      let others : List (List ℕ) = value ∷ [] in
      let name = name_cell m in
      let behind : AreCells others = (
        number_cell (value_of all m) (value_printable all small m),
        tt,
      ) in
      let text = joined (measure_name m ∷ others) in
      let rest = flat_map (value_line all) some in
      let quiet = cells_quiet (measure_name m) others name behind in
      let full = line_some (measure_name m) others name in
      let cut = ap parts_of (line_is (measure_name m) value rest) ∙ line_cut text rest (quiet_line
      text quiet) in
      let filled = ne_eqb (length text) 0 (λ e. omega (arith, full)) in
      ap (λ (rows : List Row). map (λ row. row.fields) rows)
      (numbered_step number text text _ _ cut (sym (quiet_stripped text quiet full)) filled
      ∙ ap (λ (some : List Row). some ++ rows_left (number + 1) (parts_of rest))
      (cells_row (number + 1) (measure_name m) others name behind))
      ∙ ap (λ (rest : List (List (List ℕ))). cells m ∷ rest) (lines_left (number + 1) some)

  abbrev header : List ℕ
  header = codes "# key; value"

  -- read again, the rows are the measures' names and numbers
  pub text_rows : map (λ row. row.fields) (rows (statistic_text all)) ≡ map cells measures
  unfolding statistic_text
  text_rows =
      let rest = flat_map (value_line all) measures in
      let cut = line_cut header rest (plain_header header refl) in
      ap (λ (some : List Row). map (λ row. row.fields) some)
      (sym (all_left (header ++ 10 ∷ rest))
      ∙ numbered_step 0 header header _ _ cut refl refl)
      ∙ lines_left 1 measures
