use Rattle.plan_num.proofs.Common.{◌∙◌}
use Rattle.stage_keep.proofs.Writing.{made_more}
use Rattle.stage_keep.proofs.write.push_made.Goals as goal

pub loop-index-preserved : goal.loop-index-preserved
loop-index-preserved c =
    made_more c.args.files.now c.loop-index.index c.get-made.result.now c.as_bytes.result.now
    c.as_bytes-in-loop-index.result.now c.loop-index.bytes.items _ _ c.get-made.ensures
    (c.as_bytes.ensures ∙ c.in_ok-head.ensures) c.as_bytes-in-loop-index.ensures c.in_ok-push_block.ensures
    c.loop-index.invariant
