use Rattle.assignment.proofs.Expanding.{growing_more}
use Rattle.assignment.proofs.seek.grow.Goals as goal

pub loop-step-preserved : goal.loop-step-preserved
loop-step-preserved g c = record {
  growing = growing_more g.search c.args.seeker.now.plan.now c.args.claimed.now.claims
      c.loop-step.claimed.claims c.expand.new.claimed.claims
      c.loop-step.step c.nth.result c.loop-step.invariant.growing c.nth.ensures.value
      c.in_ok-expand.ensures.more.kept.right c.in_ok-expand.ensures.more.more c.in_ok-expand.ensures.more.others
      c.in_ok-expand.ensures.expanded;
  claimable = c.in_ok-expand.ensures.more.kept.claimable;
}
