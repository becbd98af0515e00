use Rattle.plan_num.proofs.Common.{sym, subst}
use Rattle.link_plans.proofs.Common.{links_in}
use Rattle.canonical_potentials.specs.Drops.{ArePassed, depth}
use Rattle.canonical_potentials.proofs.Loops.{goes_down}
use Rattle.canonical_potentials.proofs.Steps.{still_searched, depth_most}
use Rattle.canonical_potentials.proofs.drops.Drops.pass_to_end.Goals as goal

pub loop-changed-smaller : goal.loop-changed-smaller
loop-changed-smaller c =
    let known = still_searched (links_in c.args.trips.now) c.args.plan.now c.loop-changed.self
    c.relax_all-changed.new.self c.relax_all-changed.result c.loop-changed.invariant.known
    c.relax_all-changed.ensures.step in
    goes_down (depth c.loop-changed.self) (depth c.relax_all-changed.new.self) c.loop-changed.changed
    c.relax_all-changed.result c.loop-changed-test.true c.relax_all-changed.ensures.step.deeper
    (depth_most (links_in c.args.trips.now) c.args.plan.now c.relax_all-changed.new.self
    c.requires.known.sound known)

pub loop-changed-preserved : goal.loop-changed-preserved
loop-changed-preserved c = record {
  known = still_searched (links_in c.args.trips.now) c.args.plan.now c.loop-changed.self
      c.relax_all-changed.new.self c.relax_all-changed.result c.loop-changed.invariant.known
      c.relax_all-changed.ensures.step;
  kept = λ e. subst (ArePassed (links_in c.args.trips.now) c.args.plan.now)
      (sym (c.relax_all-changed.ensures.step.same e)) (c.relax_all-changed.ensures.kept e);
}

pub returns-clause-kept : goal.returns-clause-kept
returns-clause-kept c = c.loop-changed.invariant.kept c.loop-changed-test.false
