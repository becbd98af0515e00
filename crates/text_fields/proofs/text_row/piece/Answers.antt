use Rattle.plan_num.proofs.Common.{refl}
use Rattle.text_fields.proofs.FieldFacts.{piece_is}
use Rattle.text_fields.proofs.text_row.piece.Goals as goal

pub returns-in-Apart : goal.returns-in-Apart
returns-in-Apart c =
    rw (c.in-Apart.is, c.unwrap_or.ensures) (piece_is _ _ _ c.args.index c.get.ensures.value refl)
