-- Rows of potentials, one after the other.
use Rattle.plan_num.proofs.Common.{◌≡◌, ℕ, ℤ, suc, pos, negsuc, ◌+◌, ◌<◌, ◌≤◌, ◌≤ℤ◌, nat_lt, Bool}
use Rattle.plan_num.proofs.Common.{true, false, cond, List, [], ◌∷◌, ◌++◌, length, map, take, drop}
use Rattle.plan_num.proofs.Common.{get_or, slice_get, unsigned_abs, All, Some, ap, sym, ◌∙◌, arith}
use Rattle.plan_num.proofs.Common.{ints, take_more, take_all, map-append, drop_all, length-map}
use Rattle.plan_num.proofs.Common.{All-map}
use Rattle.std.proofs.Math.Seq.{drop-cons}
use Rattle.tables.specs.declared.row_why.RowWhy.TheVariants as why
use Rattle.tables.proofs.Common.{TableRow, no_row}
use Rattle.link_plans.proofs.Common.{IsSmall, ArePotentials, AreOver}
use Rattle.flow_potentials.specs.PotentialTables.{is_trip_row, gaps_from, column_of, FitsColumns}

-- ---- reading

one_more : (i : ℕ) → suc i ≡ i + 1
one_more i = omega arith

rest_is : (table : List TableRow) (i : ℕ) → i < length table
    → drop i table ≡ get_or table i no_row ∷ drop (i + 1) table
rest_is table i within = drop-cons table i no_row within
    ∙ ap (λ k. get_or table i no_row ∷ drop k table) (one_more i)

module _ (count : ℕ) (table : List TableRow) (i : ℕ)
    (so_far : gaps_from count 0 table ≡ gaps_from count i (drop i table)) where
  gaps_here : i < length table → gaps_from count 0 table
      ≡ cond (is_trip_row count i (get_or table i no_row)) []
      (record { row = (get_or table i no_row).number; why = why.OrderGap } ∷ [])
      ++ gaps_from count (i + 1) (drop (i + 1) table)
  unfolding gaps_from
  gaps_here within = so_far ∙ ap (gaps_from count i) (rest_is table i within)

  pub gap_found : i < length table → is_trip_row count i (get_or table i no_row) ≡ false
      → slice_get (gaps_from count 0 table) 0 ≡ Some
      (record { row = (get_or table i no_row).number; why = why.OrderGap })
  gap_found within e = grind (arith, slice_get, gaps_here, get_or)

  pub no_gap : i < length table → is_trip_row count i (get_or table i no_row) ≡ true
      → gaps_from count 0 table ≡ gaps_from count (i + 1) (drop (i + 1) table)
  no_gap within e = grind (arith, gaps_here, get_or)

  pub gap_end : length table ≤ i → (b : Bool) → nat_lt i count ≡ b
      → gaps_from count 0 table ≡ cond b (record { row = 0; why = why.OrderGap } ∷ []) []
  unfolding gaps_from
  gap_end past b e = so_far ∙ ap (gaps_from count i) (drop_all i table past)
      ∙ ap (λ some. cond some (record { row = 0; why = why.OrderGap } ∷ []) []) e

-- a number more of a column
pub column_more : (column : ℕ) (table : List TableRow) (i : ℕ) (numbers new : List ℕ) (number : ℕ) → i < length table
    → numbers ≡ column_of column (take i table)
    → number ≡ unsigned_abs (get_or (get_or table i no_row).cells column (pos 0))
    → new ≡ numbers ++ number ∷ [] → new ≡ column_of column (take (i + 1) table)
column_more column table i numbers new number within so_far is added =
    let value : TableRow → ℕ = λ row. unsigned_abs (get_or row.cells column (pos 0)) in
    added ∙ ap (λ some. some ++ number ∷ []) so_far
    ∙ ap (λ one. column_of column (take i table) ++ one ∷ []) is
    ∙ sym (map-append value (take i table) (get_or table i no_row ∷ []))
    ∙ ap (map value) (sym (take_more table i no_row within))

pub column_all : (column : ℕ) (table : List TableRow) (i : ℕ) (numbers : List ℕ) → length table ≤ i
    → numbers ≡ column_of column (take i table) → numbers ≡ column_of column table
column_all column table i numbers past is =
    is ∙ ap (column_of column) (take_all i table past)

-- numbers in their columns are small
abs_small : (cell : ℤ) → pos 0 ≤ℤ cell → cell ≤ℤ pos 1000000000000000000 → unsigned_abs cell ≤ 1000000000000000000
abs_small (pos n) low high = omega (arith, ints, high)
abs_small (negsuc n) low high = absurd (omega (arith, ints, low))

row_small : (row : TableRow) → FitsColumns row
    → IsSmall (unsigned_abs (get_or row.cells 1 (pos 0))) × IsSmall (unsigned_abs (get_or row.cells 2 (pos 0)))
row_small row fits = grind (arith, unsigned_abs, get_or, abs_small)

pub table_potentials : (table : List TableRow) → All FitsColumns table → (u v : List ℕ)
    → u ≡ column_of 1 table → v ≡ column_of 2 table → ArePotentials (record { u = u; v = v })
table_potentials table fit u v u_is v_is = rw (u_is, v_is) (record {
  each = grind (arith, length-map, unsigned_abs, get_or);
  u_small = All-map IsSmall (λ (row : TableRow). unsigned_abs (get_or row.cells 1 (pos 0))) table
      (λ k d h. (row_small (get_or table k d) (fit k d h)).0);
  v_small = All-map IsSmall (λ (row : TableRow). unsigned_abs (get_or row.cells 2 (pos 0))) table
      (λ k d h. (row_small (get_or table k d) (fit k d h)).1);
})

pub table_over : (table : List TableRow) (count : ℕ) (u v : List ℕ) → u ≡ column_of 1 table → v ≡ column_of 2 table
    → length table ≡ count → AreOver count (record { u = u; v = v })
table_over table count u v u_is v_is counted = grind (arith, length-map, unsigned_abs, get_or)

-- ---- writing
