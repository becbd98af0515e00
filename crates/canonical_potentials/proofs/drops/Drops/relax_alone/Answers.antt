use Rattle.plan_num.proofs.Common.{◌<◌, get_or, arith}
use Rattle.link_plans.proofs.Common.{links_in}
use Rattle.canonical_potentials.proofs.Steps.{alone_step}
use Rattle.canonical_potentials.proofs.drops.Drops.relax_alone.Goals as goal

pub returns-then-left-number-clause-step : goal.returns-then-left-number-clause-step
returns-then-left-number-clause-step c =
    let less : get_or c.args.self.now.left c.args.i 0 < c.root-number.result =
    omega (arith, c.if-left-number.true, c.left.ensures) in
    alone_step (links_in c.args.trips.now) c.args.plan.now c.args.self.now c.requires.known c.args.i
    c.root-number.result c.set_left.new.self c.requires.within c.requires.alone
    c.root-number.ensures less c.set_left.ensures
