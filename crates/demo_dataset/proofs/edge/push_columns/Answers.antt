use Rattle.plan_num.proofs.Common.{◌++◌, arith, flat_map}
use Rattle.demo_dataset.specs.Grid.{column_edges}
use Rattle.demo_dataset.proofs.Counting.{appended, ended}
use Rattle.demo_dataset.proofs.edge.push_columns.Goals as goal

pub loop-column-preserved : goal.loop-column-preserved
loop-column-preserved c =
    appended (column_edges c.args.size) c.loop-column.column _ _ _ _ (omega arith) (omega arith)
    c.loop-column.invariant c.in_ok-push_column.ensures

pub returns-in_ok-push_column : goal.returns-in_ok-push_column
returns-in_ok-push_column c =
    appended (column_edges c.args.size) c.loop-column.column _ _ _ _ (omega arith) (omega arith)
    c.loop-column.invariant c.in_ok-push_column.ensures

pub returns : goal.returns
returns c =
    ended (λ columns. c.args.edges.now.items ++ flat_map (column_edges c.args.size) columns)
    c.loop-column.column _ _ (omega arith) c.loop-column.invariant
