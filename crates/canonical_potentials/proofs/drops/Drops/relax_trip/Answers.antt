use Rattle.link_plans.proofs.Common.{links_in}
use Rattle.canonical_potentials.proofs.Loops.{trip_step, trip_kept}
use Rattle.canonical_potentials.proofs.drops.Drops.relax_trip.Goals as goal

pub returns-clause-step : goal.returns-clause-step
returns-clause-step c = trip_step (links_in c.args.trips.now) c.args.plan.now c.args.self.now c.args.i
    c.relax_next-next.new.self c.relax_row-row.new.self c.relax_root-root.new.self
    c.relax_next-next.result c.relax_row-row.result c.relax_root-root.result c.either.result
    c.either-2.result c.either.ensures c.either-2.ensures c.relax_next-next.ensures.step
    c.relax_row-row.ensures.step c.relax_root-root.ensures.step

pub returns-clause-kept : goal.returns-clause-kept
returns-clause-kept c = trip_kept (links_in c.args.trips.now) c.args.plan.now c.args.self.now c.args.i
    c.relax_next-next.new.self c.relax_row-row.new.self c.relax_root-root.new.self
    c.relax_next-next.result c.relax_row-row.result c.relax_root-root.result c.either.result
    c.either-2.result c.either.ensures c.either-2.ensures c.relax_next-next.ensures.step
    c.relax_row-row.ensures.step c.relax_root-root.ensures.step
    c.relax_next-next.ensures.kept c.relax_row-row.ensures.kept c.relax_root-root.ensures.kept
