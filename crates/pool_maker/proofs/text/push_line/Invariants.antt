-- The table has the rows of the edges so far.
use Rattle.plan_num.proofs.Common.{◌≡◌, ◌++◌, map, take, enumerate_from}
use Rattle.pool_maker.specs.PoolTexts.{row_at}
use Rattle.pool_maker.proofs.text.push_line.Given as goal

abbrev pub invariant-loop-place : goal.invariant-loop-place
invariant-loop-place l =
    l.table ≡ l.initial.table
    ++ map (row_at l.network l.number) (take l.place (enumerate_from 1 l.edge-items))
