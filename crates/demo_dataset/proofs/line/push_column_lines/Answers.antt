use Rattle.plan_num.proofs.Common.{◌++◌, map, arith}
use Rattle.demo_dataset.specs.Grid.{column_line}
use Rattle.demo_dataset.proofs.Counting.{pushed, ended}
use Rattle.demo_dataset.proofs.line.push_column_lines.Goals as goal

pub loop-column-preserved : goal.loop-column-preserved
loop-column-preserved c =
    pushed (column_line c.args.size) c.loop-column.column _ _ _ _ (omega arith) (omega arith)
    c.loop-column.invariant (cc (c.in_ok-push.ensures.items, c.in_ok-column_line.ensures))

pub returns-in_ok-push : goal.returns-in_ok-push
returns-in_ok-push c =
    pushed (column_line c.args.size) c.loop-column.column _ _ _ _ (omega arith) (omega arith)
    c.loop-column.invariant (cc (c.in_ok-push.ensures.items, c.in_ok-column_line.ensures))

pub returns : goal.returns
returns c =
    ended (λ columns. c.args.lines.now.items ++ map (column_line c.args.size) columns)
    c.loop-column.column _ _ (omega arith) c.loop-column.invariant
