use Rattle.plan_num.proofs.Common.{arith, ◌∙◌, ap, eqb, length, sym}
use Rattle.text_fields.specs.Rows.{without_blanks}
use Rattle.text_fields.proofs.FieldFacts.{counts_all, counts_less, counts_one}
use Rattle.text_fields.proofs.text_row.cleaned_count.Goals as goal
use Rattle.text_fields.proofs.text_row.cleaned_count.Goals.{else-count-ge2-via-then-count-ge2+else-is_empty_field}
use Rattle.text_fields.proofs.text_row.cleaned_count.Goals.{else-count-ge2-via-else-count-ge2}

pub returns-then-is_empty_field : goal.returns-then-is_empty_field
returns-then-is_empty_field c =
    counts_less _ _ c.piece_count-count.ensures c.if-count-ge2.true
    (ap (λ field. eqb (length (without_blanks field)) 0) (sym c.piece.ensures)
    ∙ sym c.is_empty_field.ensures ∙ c.if-is_empty_field.true)

pub returns-else-count-ge2 : goal.returns-else-count-ge2
returns-else-count-ge2 c =
    elim c.else-count-ge2.branch [
      | else-count-ge2-via-then-count-ge2+else-is_empty_field w ↦ grind (arith, counts_all)
      | else-count-ge2-via-else-count-ge2 w ↦ grind (arith, counts_one)
    ]
