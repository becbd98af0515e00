use Rattle.plan_num.proofs.Common.{arith}
use Rattle.link_plans.proofs.Common.{links_in}
use Rattle.assignment.proofs.LinkTies.{ties_all, ties_so}
use Rattle.assignment.proofs.ties.ties_of.Goals as goal

pub loop-trip-preserved : goal.loop-trip-preserved
loop-trip-preserved c = ties_so (links_in c.args.trips.now) c.args.potentials.now c.loop-trip.ties
    c.mark_trip.new.ties c.loop-trip.trip c.loop-trip.invariant c.mark_trip.ensures.others
    (omega (arith, c.loop-trip-test.true, c.len-trip-end.ensures.count)) c.mark_trip.ensures.row

pub returns : goal.returns
returns c = ties_all (links_in c.args.trips.now) c.args.potentials.now c.loop-trip.ties
    c.mark_alone.new.ties c.loop-trip.trip c.loop-trip.invariant c.mark_alone.ensures.others
    (omega (arith, c.loop-trip-test.false, c.len-trip-end.ensures.count)) c.mark_alone.ensures.row
