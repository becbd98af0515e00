use Rattle.plan_num.proofs.Common.{ap, ◌∙◌, flat_map}
use Rattle.stage_keep.specs.Entries.{keep_name}
use Rattle.stage_chain.proofs.Unkept.{part_found}
use Rattle.stage_chain.proofs.keep.last_part.Goals as goal

pub returns-clause-behind : goal.returns-clause-behind
returns-clause-behind g c =
    part_found _ c.args.given.now _ _ (λ part. part.items) _
    (c.keep_name.ensures ∙ ap keep_name c.stage.ensures)
    (ap (flat_map (λ piece. piece.now)) c.as_slice-2.ensures.value ∙ c.in_ok-front.ensures)
    c.get_behind.ensures.behind
