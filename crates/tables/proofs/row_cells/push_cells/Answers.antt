use Rattle.plan_num.proofs.Common.{arith}
use Rattle.tables.proofs.CellFacts.{cells_joined, cells_whole}
use Rattle.tables.proofs.row_cells.push_cells.Goals as goal

pub returns-then-done-kinds-clause-gives : goal.returns-then-done-kinds-clause-gives
returns-then-done-kinds-clause-gives c =
    cells_joined _ _ _ _ c.push_front.new.cells.items _ c.push_rest.result
    c.in_ok-done.ensures.left.0 c.in_ok-done.ensures.left.1 c.push_rest.ensures.gives

pub returns-else-done-kinds-clause-gives : goal.returns-else-done-kinds-clause-gives
returns-else-done-kinds-clause-gives c =
    cells_whole c.args.kinds.now c.args.row.now.fields c.in_ok-done.done _ _ _ (omega arith)
    c.in_ok-done.ensures.left.0 c.in_ok-done.ensures.left.1
