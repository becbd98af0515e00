-- What holds of the costs of a text without a fault.
use Rattle.plan_num.proofs.Common.{◌≡◌, ℕ, ℤ, pos, arith, cond, Bool, true, false, List, [], ◌∷◌}
use Rattle.plan_num.proofs.Common.{length, get_or, Some, option_map, unwrap_or, All, find, int_eq}
use Rattle.plan_num.proofs.Common.{ints, length-map, All-head, All-tail, All-map}
use Rattle.tables.specs.declared.column.ColumnKind.TheVariants as kind
use Rattle.tables.proofs.Common.{pool_cost_columns, records_of, input_faults, table_of, TableRow}
use Rattle.tables.proofs.Common.{InColumns, sound_rows}
use Rattle.line_walks.specs.GivenCosts.{cost_for, costs_of, IsCost}
use Rattle.line_walks.specs.PoolCosts.{CostRow, cost_row_of, pool_cost_input}
use Rattle.line_walks.specs.Pools.{LineParts}

row_is_cost : (cells : List ℤ) → InColumns pool_cost_columns cells → IsCost (cost_row_of cells).cost
row_is_cost cells within = grind arith

found_is_cost : (p : CostRow → Bool) (rows : List CostRow) → All (λ row. IsCost row.cost) rows
    → IsCost (unwrap_or (option_map (λ row. row.cost) (find p rows)) (pos 0))
found_is_cost p [] all = record { low = omega (arith, ints); high = omega (arith, ints) }
found_is_cost p (row ∷ rows) all =
    elim (p row) as (λ b. IsCost
    (unwrap_or (option_map (λ row. row.cost) (cond b (Some row) (find p rows))) (pos 0))) [
      | true ↦ All-head (λ row. IsCost row.cost) row rows all
      | false ↦ found_is_cost p rows (All-tail (λ row. IsCost row.cost) row rows all)
    ]

pub costs_sound : (lines : List LineParts) (text : List ℕ)
    → input_faults (pool_cost_input lines) text ≡ [] → All IsCost (costs_of lines text)
unfolding costs_of
costs_sound lines text none =
    let input = pool_cost_input lines in
    let rows = records_of input text in
    let sound = sound_rows input text none in
    let all = All-map (λ (row : CostRow). IsCost row.cost)
    (λ (row : TableRow). cost_row_of row.cells) (table_of input.columns text)
    (λ k d h. row_is_cost _ (sound k d h).2) in
    All-map IsCost (λ (line : LineParts). unwrap_or (cost_for line.id rows) (pos 0)) lines
    (λ k d h. found_is_cost (λ row. int_eq (get_or lines k d).id row.line) rows all)

-- there is one for each line
pub costs_count : (lines : List LineParts) (text : List ℕ)
    → length (costs_of lines text) ≡ length lines
unfolding costs_of
costs_count lines text = length-map lines (λ line. unwrap_or
    (cost_for line.id (records_of (pool_cost_input lines) text)) (pos 0))
