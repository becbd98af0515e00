use Rattle.plan_num.proofs.Common.{arith}
use Rattle.link_plans.proofs.Common.{links_in}
use Rattle.canonical_potentials.proofs.Loops.{one_trip}
use Rattle.canonical_potentials.proofs.drops.Drops.relax_all.Goals as goal

pub loop-i-preserved : goal.loop-i-preserved
loop-i-preserved c = one_trip (links_in c.args.trips.now) c.args.plan.now c.args.self.now c.loop-i.i
    c.loop-i.self c.relax_trip-better.new.self c.loop-i.changed c.relax_trip-better.result
    c.either-changed.result c.loop-i.invariant c.relax_trip-better.ensures.step
    c.relax_trip-better.ensures.kept c.either-changed.ensures

pub returns-clause-kept : goal.returns-clause-kept
returns-clause-kept c = λ e i h. c.loop-i.invariant.kept e i
    (omega (arith, h, c.loop-i-test.false, c.len-i-end.ensures.count))
