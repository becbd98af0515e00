use Rattle.plan_num.proofs.Common.{arith}
use Rattle.link_plans.proofs.Copies.{copied_fits, copied_all}
use Rattle.link_plans.proofs.assignment.Assignment.of_plan.Goals as goal

pub begin-requires-clause-free : goal.begin-requires-clause-free
begin-requires-clause-free c =
    copied_fits c.args.plan.now c.loop-trip.made c.loop-trip.trip c.loop-trip.invariant
    (omega (arith, c.loop-trip-test.true, c.loop-trip.auto.trip-end, c.len-trip-end.ensures.count))
    c.len-trip-end.ensures.successors c.next.result c.next.ensures

pub returns : goal.returns
returns c = copied_all c.args.plan.now c.loop-trip.made c.loop-trip.trip c.loop-trip.invariant
    (omega (arith, c.loop-trip-test.false, c.loop-trip.auto.trip-end, c.len-trip-end.ensures.count))
