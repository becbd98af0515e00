use Rattle.plan_num.proofs.Common.{arith}
use Rattle.demo_dataset.specs.Grid.{edge_down}
use Rattle.demo_dataset.proofs.Counting.{pushed}
use Rattle.demo_dataset.proofs.edge.push_column.Goals as goal

pub loop-row-preserved : goal.loop-row-preserved
loop-row-preserved c =
    pushed (edge_down c.args.size c.args.column) c.loop-row.row _ _ _ _ (omega arith) (omega arith)
    c.loop-row.invariant (cc c.in_ok-push.ensures.items)
