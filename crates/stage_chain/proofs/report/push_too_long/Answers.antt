use Rattle.plan_num.proofs.Common.{codes}
use Rattle.stage_chain.proofs.Pieces.{three_pieces}
use Rattle.stage_chain.proofs.report.push_too_long.Goals as goal

pub returns : goal.returns
returns c =
    three_pieces _ (codes "refused: ") _ (codes " is too long") _ _ _ c.in_ok-extend_from_slice.ensures.items
    c.in_ok-extend_from_slice-2.ensures.items c.in_ok-extend_from_slice-3.ensures.items
