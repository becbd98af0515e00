use Rattle.plan_num.proofs.Common.{◌∙◌, ap, false, filter, sym, true}
use Rattle.text_fields.specs.Rows.{has_byte}
use Rattle.text_fields.specs.Told.{given}
use Rattle.text_fields.proofs.GivenFacts.{same_given}
use Rattle.text_fields.proofs.text_lines.TextLines.pass_comments.Goals as goal

pub returns-clause-given : goal.returns-clause-given
returns-clause-given c =
    ap (given true) (sym c.self.view_is) ∙ sym (same_given true _) ∙ ap (filter has_byte) c.behind_comments-count.ensures.given
    ∙ same_given false _
