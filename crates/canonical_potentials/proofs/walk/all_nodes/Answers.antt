use Rattle.plan_num.proofs.Common.{arith, ints}
use Rattle.canonical_potentials.proofs.Walking.{waits_more}
use Rattle.canonical_potentials.proofs.walk.all_nodes.Goals as goal

pub loop-trip-preserved : goal.loop-trip-preserved
loop-trip-preserved c = waits_more c.args.valid.now.u c.loop-trip.trip c.saturating_add.result
    c.loop-trip.nodes.items c.push-in-loop-trip.new.self.items c.loop-trip.invariant
    c.in_ok-push-2.ensures.items
    (omega (arith, ints, c.saturating_add.ensures, c.unsigned_abs.ensures.value, c.u.ensures.value, c.u.ensures.high))
