use Rattle.plan_num.proofs.Common.{◌<◌, arith}
use Rattle.link_plans.proofs.Common.{links_in}
use Rattle.canonical_potentials.proofs.Steps.{back_step}
use Rattle.canonical_potentials.proofs.drops.Drops.relax_back.Goals as goal

pub returns-then-root-number-clause-step : goal.returns-then-root-number-clause-step
returns-then-root-number-clause-step c =
    let less : c.args.self.now.root < c.left-number.result =
    omega (arith, c.if-root-number.true, c.root.ensures) in
    back_step (links_in c.args.trips.now) c.args.plan.now c.args.self.now c.requires.known c.args.i
    c.left-number.result c.set_root.new.self c.requires.link c.left-number.ensures less
    c.set_root.ensures
