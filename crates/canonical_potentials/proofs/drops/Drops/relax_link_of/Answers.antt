use Rattle.plan_num.proofs.Common.{arith}
use Rattle.link_plans.proofs.Common.{links_in}
use Rattle.canonical_potentials.proofs.Steps.{row_asks, row_step}
use Rattle.canonical_potentials.proofs.drops.Drops.relax_link_of.Goals as goal

pub overflow_add-number : goal.overflow_add-number
overflow_add-number c = omega (
  arith,
  row_asks (links_in c.args.trips.now) c.args.plan.now c.args.self.now c.requires.known.sound c.requires.known c.args.i
      c.args.link.to c.args.link.gain c.requires.link.is,
  c.left.ensures,
)

pub returns-then-right-number-clause-step : goal.returns-then-right-number-clause-step
returns-then-right-number-clause-step c = row_step (links_in c.args.trips.now) c.args.plan.now c.args.self.now
    c.requires.known c.args.i c.args.link.to c.args.link.gain c.requires.link.is c.requires.link.within _
    (omega (arith, c.left.ensures)) (omega (arith, c.if-right-number.true, c.right.ensures, c.left.ensures))
    c.set_right.new.self c.set_right.ensures
