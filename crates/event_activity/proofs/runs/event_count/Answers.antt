use Rattle.plan_num.proofs.Common.{arith}
use Rattle.event_activity.proofs.LineEvents.{events_counted}
use Rattle.event_activity.proofs.runs.event_count.Goals as goal

pub returns : goal.returns
returns c =
    events_counted c.args.network.now c.args.pool.now c.loop-line.count c.loop-line.line
    (omega arith) c.loop-line.invariant.told
