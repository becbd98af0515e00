use Rattle.text_fields.proofs.Lines.{cut_blanks}
use Rattle.text_fields.proofs.line.without_blanks.Goals as goal

pub returns : goal.returns
returns c = cut_blanks c.args.field.now _ _ c.behind_blanks-front.ensures c.blanks_after.ensures
