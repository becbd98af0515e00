use Rattle.plan_num.proofs.Common.{arith, le-ltb, lt-ltb}
use Rattle.pesp.proofs.NextSets.{none_open, open_here, settled_more}
use Rattle.pesp.proofs.standing.first_open.Goals as goal

pub loop-event-preserved : goal.loop-event-preserved
loop-event-preserved c =
    settled_more c.args.sets.now c.loop-event.event c.loop-event.invariant
    (le-ltb 1 _ (omega (arith, c.if-count-gt1.false, c.count.ensures)))

pub returns-then-count-gt1 : goal.returns-then-count-gt1
returns-then-count-gt1 c =
    open_here c.args.sets.now c.loop-event.event
    (omega (arith, c.loop-event-test.true, c.events-event-end.ensures.value))
    c.loop-event.invariant (lt-ltb 1 _ (omega (arith, c.if-count-gt1.true, c.count.ensures)))

pub returns : goal.returns
returns c =
    none_open c.args.sets.now c.loop-event.event
    (omega (arith, c.loop-event-test.false, c.events-event-end.ensures.value))
    c.loop-event.invariant
