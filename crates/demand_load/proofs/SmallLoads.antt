-- Rows have not many customers, so loads are not great.
use Rattle.plan_num.proofs.Common.{ℕ, ℤ, pos, ◌*◌, ◌≤◌, ◌≤ℤ◌, Bool, true, false, cond, List, length}
use Rattle.plan_num.proofs.Common.{arith, unsigned_abs, All, All-map, All-weaker, sum_by-le}
use Rattle.tables.proofs.Common.{od_columns, TableRow, records, InColumns}
use Rattle.walks.proofs.Common.{NetworkParts}
use Rattle.demand_load.specs.declared.demand_row.DemandRow.{DemandRow}
use Rattle.demand_load.specs.Demand.{demand_input, demand_row, row_load, load_of}

-- not many customers are in a row
pub customers_in : (cells : List ℤ) → InColumns od_columns cells
    → (pos 0 ≤ℤ (demand_row cells).customers) × (unsigned_abs
    (demand_row cells).customers ≤ 1000000000000)
customers_in cells within = grind arith

module _ (network : NetworkParts) where
  pub few_customers : (rows : List TableRow) → All (λ row. InColumns od_columns row.cells) rows
      → All (λ row. (pos 0 ≤ℤ row.customers) × (unsigned_abs row.customers ≤ 1000000000000))
      (records (demand_input network) rows)
  few_customers rows within =
      All-map (λ (row : DemandRow). (pos 0 ≤ℤ row.customers)
      × (unsigned_abs row.customers ≤ 1000000000000)) (λ row. demand_row row.cells) rows
      (All-weaker (λ row. InColumns od_columns row.cells)
      (λ row. (pos 0 ≤ℤ (demand_row row.cells).customers)
      × (unsigned_abs (demand_row row.cells).customers ≤ 1000000000000))
      (λ row h. customers_in row.cells h) rows within)

  -- so loads are not great
  pub load_small : (rows : List DemandRow) (index : ℕ)
      → All (λ row. (pos 0 ≤ℤ row.customers) × (unsigned_abs row.customers ≤ 1000000000000)) rows
      → load_of network rows index ≤ length rows * 1000000000000
  load_small rows index few =
      sum_by-le (row_load network index) 1000000000000 rows
      (All-weaker (λ row. (pos 0 ≤ℤ row.customers) × (unsigned_abs row.customers ≤ 1000000000000))
      (λ row. row_load network index row ≤ 1000000000000)
      (λ row h. either _ (unsigned_abs row.customers) h.1) rows few)
    where
      either : (b : Bool) (n : ℕ) → n ≤ 1000000000000 → cond b n 0 ≤ 1000000000000
      either true n h = h
      either false n h = omega arith
