use Rattle.plan_num.proofs.Common.{arith}
use Rattle.delay_trials.proofs.Waits.{all_wait, one_waits, other_at}
use Rattle.delay_trials.proofs.link_places.wait_behind.Goals as goal

pub loop-at-preserved : goal.loop-at-preserved
loop-at-preserved c =
    one_waits c.args.links.now c.args.rank c.args.waiting.now c.loop-at.at c.loop-at.waiting c.set.new.self _
    c.loop-at.invariant c.loop-at-test.true c.if-links-at.true c.set.ensures

pub returns-else-links-at : goal.returns-else-links-at
returns-else-links-at c =
    all_wait c.args.links.now c.args.rank c.args.waiting.now c.loop-at.at c.loop-at.waiting c.loop-at.invariant
    c.requires.each c.requires.in_order (other_at c.args.links.now c.args.rank c.loop-at.at _ c.if-links-at.false)

pub returns-after-loop-at : goal.returns-after-loop-at
returns-after-loop-at c =
    all_wait c.args.links.now c.args.rank c.args.waiting.now c.loop-at.at c.loop-at.waiting c.loop-at.invariant
    c.requires.each c.requires.in_order (λ e inside. absurd (omega (arith, inside, c.loop-at-test.false)))
