-- The costs that a file gives the lines of a pool.
use Rattle.std.specs.Prelude.{ℕ, ℤ, pos, ◌≤ℤ◌, List, map, Option, option_map, unwrap_or}
use Rattle.std.specs.List.{find}
use Rattle.std.specs.Ordering.{int_eq}
use Rattle.plan_num.specs.declared.number.TheConstants.{NUMBER_LIMIT}
use Rattle.tables.specs.Inputs.{records_of}
use Rattle.line_walks.specs.PoolCosts.{CostRow, pool_cost_input}
use Rattle.line_walks.specs.Pools.{LineParts}

-- the cost of the line of an id, where a row gives it
abbrev pub cost_for : ℤ → List CostRow → Option ℤ
cost_for id rows = option_map (λ row. row.cost) (find (λ row. int_eq id row.line) rows)

-- the costs of all lines by some rows, in the order of the lines
abbrev pub costs_over : List LineParts → List CostRow → List ℤ
costs_over lines rows = map (λ line. unwrap_or (cost_for line.id rows) (pos 0)) lines

-- the costs of all lines by a text
unfoldable pub costs_of : List LineParts → List ℕ → List ℤ
costs_of lines text = costs_over lines (records_of (pool_cost_input lines) text)

-- what holds of a cost, which is in millionths
pub record IsCost (cost : ℤ) : Type 0 where
  pub low : pos 0 ≤ℤ cost
  pub high : cost ≤ℤ pos NUMBER_LIMIT
