use Rattle.plan_num.proofs.Common.{◌∙◌}
use Rattle.text_fields.proofs.Lines.{empty_if}
use Rattle.text_fields.proofs.line.is_empty_field.Goals as goal

pub returns : goal.returns
returns c = c.is_empty.ensures ∙ empty_if c.args.field.now _ c.behind_blanks.ensures
