use Rattle.plan_num.proofs.Common.{◌++◌, map, arith}
use Rattle.demo_dataset.specs.Grid.{row_line}
use Rattle.demo_dataset.proofs.Counting.{pushed, ended}
use Rattle.demo_dataset.proofs.line.push_row_lines.Goals as goal

pub loop-row-preserved : goal.loop-row-preserved
loop-row-preserved c =
    pushed (row_line c.args.size) c.loop-row.row _ _ _ _ (omega arith) (omega arith)
    c.loop-row.invariant (cc (c.in_ok-push.ensures.items, c.in_ok-row_line.ensures))

pub returns-in_ok-push : goal.returns-in_ok-push
returns-in_ok-push c =
    pushed (row_line c.args.size) c.loop-row.row _ _ _ _ (omega arith) (omega arith)
    c.loop-row.invariant (cc (c.in_ok-push.ensures.items, c.in_ok-row_line.ensures))

pub returns : goal.returns
returns c =
    ended (λ rows. c.args.lines.now.items ++ map (row_line c.args.size) rows)
    c.loop-row.row _ _ (omega arith) c.loop-row.invariant
