use Rattle.plan_num.proofs.Common.{◌++◌, arith, flat_map}
use Rattle.demo_dataset.specs.Grid.{row_edges}
use Rattle.demo_dataset.proofs.Counting.{appended, ended}
use Rattle.demo_dataset.proofs.edge.push_rows.Goals as goal

pub loop-row-preserved : goal.loop-row-preserved
loop-row-preserved c =
    appended (row_edges c.args.size) c.loop-row.row _ _ _ _ (omega arith) (omega arith)
    c.loop-row.invariant c.in_ok-push_row.ensures

pub returns-in_ok-push_row : goal.returns-in_ok-push_row
returns-in_ok-push_row c =
    appended (row_edges c.args.size) c.loop-row.row _ _ _ _ (omega arith) (omega arith)
    c.loop-row.invariant c.in_ok-push_row.ensures

pub returns : goal.returns
returns c =
    ended (λ rows. c.args.edges.now.items ++ flat_map (row_edges c.args.size) rows)
    c.loop-row.row _ _ (omega arith) c.loop-row.invariant
