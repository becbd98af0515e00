use Rattle.plan_num.proofs.Common.{arith}
use Rattle.link_plans.proofs.Copies.{copied_fits, copied_all}
use Rattle.link_plans.proofs.assignment.Assignment.to_plan.Goals as goal

pub link-requires-clause-free : goal.link-requires-clause-free
link-requires-clause-free c =
    copied_fits c.args.self.now c.loop-trip.plan c.loop-trip.trip c.loop-trip.invariant
    (omega (arith, c.loop-trip-test.true, c.loop-trip.auto.trip-end, c.len-trip-end.ensures.count))
    c.len-trip-end.ensures.successors c.next.result c.next.ensures.value

pub returns : goal.returns
returns c = copied_all c.args.self.now c.loop-trip.plan c.loop-trip.trip c.loop-trip.invariant
    (omega (arith, c.loop-trip-test.false, c.loop-trip.auto.trip-end, c.len-trip-end.ensures.count))
