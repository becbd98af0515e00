-- The table has the rows of the edges so far.
use Rattle.plan_num.proofs.Common.{◌≡◌, take}
use Rattle.demand_load.specs.LoadTables.{load_rows}
use Rattle.demand_load.proofs.load_table.load_table.Given as goal

abbrev pub invariant-loop-index : goal.invariant-loop-index
invariant-loop-index l = l.table ≡ load_rows (take l.index l.network.edges) (take l.index l.loads)
