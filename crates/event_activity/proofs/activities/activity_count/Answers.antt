use Rattle.plan_num.proofs.Common.{arith}
use Rattle.event_activity.proofs.Joined.{activities_counted}
use Rattle.event_activity.proofs.activities.activity_count.Goals as goal

pub returns : goal.returns
returns c =
    activities_counted c.args.settings.now c.args.events.now c.joinings-joining-items.result.now
    c.joinings-joining-items.ensures.all c.loop-joining.joining-index
    (omega (arith, c.loop-joining-test.false)) c.loop-joining.count c.loop-joining.invariant.told
