use Rattle.plan_num.proofs.Common.{sym, arith, same_Some}
use Rattle.stage_keep.proofs.Blocks.{block_is, block_none}
use Rattle.stage_keep.proofs.block.block_at.Goals as goal

pub returns-in_default : goal.returns-in_default
returns-in_default c =
    sym (block_none c.args.head.now c.args.bytes.now (omega (arith, c.well_formed))
    (λ n rest small is. c.in_default.not-Some n (c.size_behind.ensures n rest small is)))

pub returns : goal.returns
returns c =
    let bytes = c.args.bytes.now in grind (arith, block_is, same_Some)
