use Rattle.plan_num.proofs.Common.{◌∙◌, ◌++◌, ◌∷◌, [], codes, ap, signed_decimal}
use Rattle.std.proofs.lemmas.Int.{to_z-of_z}
use mir.Syntax.{w128}
use Rattle.delay_management.proofs.ReportLine.{line_told}
use Rattle.delay_management.proofs.files.disposition_line.Goals as goal

pub returns : goal.returns
returns c =
    let delay = c.in_ok-delay_text.ensures ∙ ap (λ z. codes "delay " ++ signed_decimal z)
    (to_z-of_z w128 c.args.delay c.ranges.delay) in
    line_told (signed_decimal c.args.delay) c.args.missed
    (c.in_ok-delay_text.field-0 ∷ c.in_ok-count_text.field-0 ∷ c.in_ok-copy.field-0 ∷ [])
    (λ i. delay i ∷ c.in_ok-count_text.ensures i ∷ c.in_ok-copy.ensures i ∷ []) c.report_line.result
    c.report_line.ensures
