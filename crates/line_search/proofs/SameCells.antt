-- Tables of the same cells.
use Rattle.plan_num.proofs.Common.{◌≡◌, true, List, map, int_eq, signed_items, pointwise}
use Rattle.plan_num.proofs.Common.{pointwise_decides}
use Rattle.tables.proofs.Common.{TableRow}
use Rattle.line_search.specs.Judged.{same_cells}

-- the test of cells is exact
pub same_are : (rows other : List TableRow) → same_cells rows other ≡ true
    → map (λ row. row.cells) rows ≡ map (λ row. row.cells) other
same_are rows other h = (pointwise_decides {E = pointwise int_eq} signed_items _ _).0 h
