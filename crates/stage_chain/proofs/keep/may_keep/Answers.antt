use Rattle.plan_num.proofs.Common.{◌∙◌, ap}
use Rattle.stage_keep.specs.Entries.{keep_name}
use Rattle.stage_chain.proofs.Unkept.{ends_told}
use Rattle.stage_chain.proofs.keep.may_keep.Goals as goal

pub returns-clause-unkept : goal.returns-clause-unkept
returns-clause-unkept g c =
    ends_told _ c.args.given.now _ _ _ _
    (c.keep_name.ensures ∙ ap keep_name c.stage.ensures) (c.as_bytes.ensures ∙ c.in_ok-front.ensures)
    c.last_line.ensures c.may_have_ends.ensures.ends
