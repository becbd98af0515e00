-- The frequency of a line, which is that of its first row.
use Rattle.plan_num.proofs.Common.{arith, ◌≡◌, ℕ, ℤ, pos, ◌+◌, ◌<◌, ◌≤◌, Bool, true, false, cond}
use Rattle.plan_num.proofs.Common.{List, length, drop, get_or, slice_get, ap, Some, option_map}
use Rattle.plan_num.proofs.Common.{unwrap_or, find, int_eq, drop_more, drop_all, same_Some}
use Rattle.tables.proofs.Common.{TableRow, cell_at, no_row}
use Rattle.line_cost_model.proofs.Common.{CostedLine}
use Rattle.line_search.specs.ConceptTables.{frequency_in, frequency_of_row}

module _ (id : ℤ) (rows : List TableRow) (i : ℕ) where
  module _ (lt : i < length rows) where
    step : (own : Bool) → own ≡ int_eq id (cell_at rows i 0)
        → frequency_in (drop i rows) id ≡ unwrap_or (option_map frequency_of_row
        (cond own (Some (get_or rows i no_row))
        (find (λ row. int_eq id (get_or row.cells 0 (pos 0))) (drop (i + 1) rows)))) 0
    step own is = grind (arith, drop_more, unwrap_or, option_map, get_or)

    -- the row at a place is the first of the line
    pub first_is : true ≡ int_eq id (cell_at rows i 0)
        → frequency_in (drop i rows) id ≡ frequency_of_row (get_or rows i no_row)
    first_is own = step true own

    -- or none of it
    pub first_behind : false ≡ int_eq id (cell_at rows i 0)
        → frequency_in (drop i rows) id ≡ frequency_in (drop (i + 1) rows) id
    first_behind other = step false other

  -- there is none of it
  pub no_first : length rows ≤ i → frequency_in (drop i rows) id ≡ 0
  no_first past = ap (λ some. frequency_in some id) (drop_all i rows past)

-- the frequency of the line at a place
pub frequency_at : (lines : List CostedLine) (rows : List TableRow) (line : ℕ) (row : ℤ × ℤ) (n : ℕ)
    → option_map (λ at. (at.id, pos at.cost)) (slice_get lines line) ≡ Some row
    → n ≡ frequency_in rows row.0
    → option_map (λ at. frequency_in rows at.id) (slice_get lines line) ≡ Some n
frequency_at lines rows line row n is read = grind (arith, slice_get, option_map, same_Some)
