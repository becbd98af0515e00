use Rattle.plan_num.proofs.Common.{◌∙◌}
use Rattle.stage_keep.proofs.PlacesInLastPart.{made_parts}
use Rattle.stage_keep.proofs.last_part.made_of.Goals as goal

pub returns : goal.returns
returns c =
    made_parts c.args.bytes.items c.as_slice.result.now c.args.files.now c.args.places.now _
    c.in_ok-files.files c.in_ok-report.report c.requires.each c.as_slice.ensures.value
    (c.in_ok-report.ensures ∙ c.part_of.ensures) c.in_ok-files.ensures
