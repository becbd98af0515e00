use Rattle.plan_num.proofs.Common.{arith}
use Rattle.link_plans.proofs.Common.{links_in}
use Rattle.canonical_potentials.proofs.Steps.{link_step}
use Rattle.canonical_potentials.proofs.drops.Drops.relax_link.Goals as goal

pub over_link-requires-clause-within : goal.over_link-requires-clause-within
over_link-requires-clause-within c = (c.requires.known.sound.within c.args.i c.args.j
    (c.requires.known.plan_is.follow c.args.i c.args.j c.requires.link)).0

pub returns-in-Some-clause-step : goal.returns-in-Some-clause-step
returns-in-Some-clause-step c =
    let there = c.requires.known.plan_is.follow c.args.i c.args.j c.requires.link in
    link_step (links_in c.args.trips.now) c.args.plan.now c.args.self.now c.requires.known c.args.i
    c.args.j c.requires.link (c.requires.known.sound.within c.args.i c.args.j there).0
    c.right.result c.left.result c.in-Some.number c.right.ensures c.left.ensures
    c.over_link.result there c.over_link.ensures c.in-Some.is c.set_left.new.self
    c.set_left.ensures

pub right-requires : goal.right-requires
right-requires c = omega (
  arith,
  (c.requires.known.sound.within c.args.i c.args.j
      (c.requires.known.plan_is.follow c.args.i c.args.j c.requires.link)).1,
  c.requires.known.over.right,
)
