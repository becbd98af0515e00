use Rattle.plan_num.proofs.Common.{arith}
use Rattle.demo_dataset.specs.Grid.{edge_right}
use Rattle.demo_dataset.proofs.Counting.{pushed}
use Rattle.demo_dataset.proofs.edge.push_row.Goals as goal

pub loop-column-preserved : goal.loop-column-preserved
loop-column-preserved c =
    pushed (edge_right c.args.size c.args.row) c.loop-column.column _ _ _ _ (omega arith)
    (omega arith) c.loop-column.invariant (cc c.in_ok-push.ensures.items)
