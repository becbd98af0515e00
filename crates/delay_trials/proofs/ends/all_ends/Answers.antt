use Rattle.delay_trials.proofs.EndsOfChanges.{one_more}
use Rattle.delay_trials.proofs.ends.all_ends.Goals as goal

pub loop-index-preserved : goal.loop-index-preserved
loop-index-preserved c =
    one_more c.args.changes.now c.loop-index.index c.loop-index.ends.items c.loop-index.invariant
    c.loop-index-test.true _ _ _ c.in_ok-push.ensures.items c.in_ok-push-2.ensures.items
