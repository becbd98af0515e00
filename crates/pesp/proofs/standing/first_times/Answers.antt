use Rattle.plan_num.proofs.Common.{arith}
use Rattle.pesp.proofs.NextSets.{one_time_more, times_are_first}
use Rattle.pesp.proofs.standing.first_times.Goals as goal

pub loop-event-preserved : goal.loop-event-preserved
loop-event-preserved c =
    one_time_more c.args.sets.now c.loop-event.event c.loop-event.times.items c.push.new.self.items
    c.first_time.result c.loop-event.invariant c.first_time.ensures c.in_ok-push.ensures.items

pub returns : goal.returns
returns c =
    times_are_first c.args.sets.now c.loop-event.event c.loop-event.times.items c.loop-event.invariant
    (omega (arith, c.loop-event-test.false, c.loop-event.auto.event-end, c.events-event-end.ensures.value))
