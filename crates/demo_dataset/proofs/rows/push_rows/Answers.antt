use Rattle.plan_num.proofs.Common.{◌++◌, arith, flat_map}
use Rattle.demo_dataset.specs.Demo.{stops_in}
use Rattle.demo_dataset.proofs.Counting.{appended, ended}
use Rattle.demo_dataset.proofs.rows.push_rows.Goals as goal

pub loop-row-preserved : goal.loop-row-preserved
loop-row-preserved c =
    appended (stops_in c.args.size) c.loop-row.row _ _ _ _ (omega arith) (omega arith)
    c.loop-row.invariant c.in_ok-push_stops.ensures

pub returns-in_ok-push_stops : goal.returns-in_ok-push_stops
returns-in_ok-push_stops c =
    appended (stops_in c.args.size) c.loop-row.row _ _ _ _ (omega arith) (omega arith)
    c.loop-row.invariant c.in_ok-push_stops.ensures

pub returns : goal.returns
returns c =
    ended (λ rows. c.args.text.now.items ++ flat_map (stops_in c.args.size) rows)
    c.loop-row.row _ _ (omega arith) c.loop-row.invariant
