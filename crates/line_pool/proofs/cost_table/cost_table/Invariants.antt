-- The table has the rows of the lines so far.
use Rattle.plan_num.proofs.Common.{◌≡◌, map, take}
use Rattle.line_pool.specs.CostStage.{cost_row}
use Rattle.line_pool.proofs.cost_table.cost_table.Given as goal

abbrev pub invariant-loop-line : goal.invariant-loop-line
invariant-loop-line l = l.table ≡ map (cost_row l.settings l.network.edges) (take l.line l.pool)
