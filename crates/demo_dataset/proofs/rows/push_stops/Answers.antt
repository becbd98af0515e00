use Rattle.plan_num.proofs.Common.{◌++◌, arith, flat_map}
use Rattle.demo_dataset.specs.Grid.{stop_id}
use Rattle.demo_dataset.specs.Rows.{stop_row}
use Rattle.demo_dataset.proofs.Counting.{appended, ended}
use Rattle.demo_dataset.proofs.rows.push_stops.Goals as goal

pub loop-column-preserved : goal.loop-column-preserved
loop-column-preserved c =
    appended (λ column. stop_row (stop_id c.args.size c.args.row column)) c.loop-column.column
    _ _ _ _ (omega arith) (omega arith) c.loop-column.invariant
    (cc (c.in_ok-push_stop.ensures, c.stop_id.ensures))

pub returns-in_ok-push_stop : goal.returns-in_ok-push_stop
returns-in_ok-push_stop c =
    appended (λ column. stop_row (stop_id c.args.size c.args.row column)) c.loop-column.column
    _ _ _ _ (omega arith) (omega arith) c.loop-column.invariant
    (cc (c.in_ok-push_stop.ensures, c.stop_id.ensures))

pub returns : goal.returns
returns c =
    ended (λ columns. c.args.text.now.items
    ++ flat_map (λ column. stop_row (stop_id c.args.size c.args.row column)) columns)
    c.loop-column.column _ _ (omega arith) c.loop-column.invariant
