-- The rows of a schedule by their kinds.
use Rattle.plan_num.proofs.Common.{◌≡◌, ◌+◌, List, [], ◌∷◌, ◌++◌, length, filter, slice_get, refl}
use Rattle.plan_num.proofs.Common.{ap, sym, ◌∙◌, option_or, append-nil, length-map}
use Rattle.plan_num.proofs.Common.{length-filter_both}
use Rattle.tables.proofs.Common.{TableRow, records_by}
use Rattle.event_tables.specs.Cells.{schedule_row}
use Rattle.event_tables.specs.Schedules.{is_trip_row, is_empty_row}

-- each row is a trip or an empty ride
pub both_kinds : (table : List TableRow)
    → length (filter is_empty_row (records_by schedule_row table)) + length (filter is_trip_row
    (records_by schedule_row table)) ≡ length table
both_kinds table = length-filter_both is_empty_row is_trip_row
    (λ row. refl) (records_by schedule_row table) ∙ length-map table (λ row. schedule_row row.cells)

-- the first of two lists, one behind the other
pub first_of_two : {X : Type 0} (first second : List X)
    → option_or (slice_get first 0) (slice_get second 0) ≡ slice_get (first ++ (second ++ [])) 0
first_of_two [] second = ap (λ all. slice_get all 0) (sym (append-nil second))
first_of_two (x ∷ first) second = refl
