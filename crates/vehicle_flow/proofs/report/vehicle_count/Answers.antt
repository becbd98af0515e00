use Rattle.plan_num.proofs.Common.{arith}
use Rattle.vehicle_flow.proofs.VehicleCounts.{vehicles_all}
use Rattle.vehicle_flow.proofs.report.vehicle_count.Goals as goal

pub returns : goal.returns
returns c = vehicles_all c.args.trips.now c.args.plan.now c.loop-i.i c.loop-i.links
    c.loop-i.invariant c.requires
    (omega (arith, c.loop-i-test.false, c.len-i-end.ensures.count, c.requires.each))
    c.len.result c.len.ensures.count
