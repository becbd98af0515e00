-- The table has the rows of the lines so far.
use Rattle.plan_num.proofs.Common.{◌≡◌, take, enumerate_from, flat_map}
use Rattle.pool_maker.specs.PoolTexts.{line_rows}
use Rattle.pool_maker.proofs.text.table_of_lines.Given as goal

abbrev pub invariant-loop-place : goal.invariant-loop-place
invariant-loop-place l =
    l.table ≡ flat_map (line_rows l.network) (take l.place (enumerate_from 1 l.lines))
