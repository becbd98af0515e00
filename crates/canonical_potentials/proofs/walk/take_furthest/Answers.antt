use Rattle.plan_num.proofs.Common.{arith}
use Rattle.canonical_potentials.proofs.Walking.{taken_out}
use Rattle.canonical_potentials.proofs.walk.take_furthest.Goals as goal

pub returns-then-place-len : goal.returns-then-place-len
returns-then-place-len c = taken_out c.args.drops.now c.args.waiting.now.items c.deref.result.now
    c.swap_remove.new.self.items c.furthest-place.result c.swap_remove.result c.deref.ensures.value
    (omega (arith, c.if-place-len.true, c.len.ensures)) c.furthest-place.ensures.furthest
    c.swap_remove.ensures.value c.swap_remove.ensures.items
