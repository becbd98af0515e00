-- The rows so far.
use Rattle.plan_num.proofs.Common.{◌≡◌, map, take}
use Rattle.line_search.specs.PoolPlaces.{placed}
use Rattle.line_search.proofs.pool_rows.placed_rows.Given as goal

abbrev pub invariant-loop-row : goal.invariant-loop-row
invariant-loop-row l = l.rows.items ≡ map placed (take l.row l.table)
