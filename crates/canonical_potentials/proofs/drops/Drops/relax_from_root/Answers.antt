use Rattle.plan_num.proofs.Common.{◌<◌, get_or, arith}
use Rattle.link_plans.proofs.Common.{links_in}
use Rattle.canonical_potentials.proofs.Steps.{from_root_step}
use Rattle.canonical_potentials.proofs.drops.Drops.relax_from_root.Goals as goal

pub returns-then-right-number-clause-step : goal.returns-then-right-number-clause-step
returns-then-right-number-clause-step c =
    let less : get_or c.args.self.now.right c.args.j 0 < c.root-number.result =
    omega (arith, c.if-right-number.true, c.right.ensures) in
    from_root_step (links_in c.args.trips.now) c.args.plan.now c.args.self.now c.requires.known
    c.args.j c.root-number.result c.set_right.new.self c.requires.within c.requires.linked
    c.root-number.ensures less c.set_right.ensures
