use Rattle.plan_num.proofs.Common.{arith}
use Rattle.demo_dataset.specs.Rows.{placed_row}
use Rattle.demo_dataset.proofs.Counting.{numbered}
use Rattle.demo_dataset.proofs.rows.push_walk.Goals as goal

pub loop-index-preserved : goal.loop-index-preserved
loop-index-preserved c =
    numbered (placed_row c.args.line) c.args.edges.now c.loop-index.index _ _ _ _ (omega arith)
    c.loop-index.invariant c.in_ok-push_line_edge.ensures
