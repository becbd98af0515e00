use Rattle.plan_num.proofs.Common.{◌∷◌, ◌∙◌, ap, map, sym, arith, refl}
use Rattle.text_fields.specs.Told.{row_told}
use Rattle.text_fields.proofs.ToldFacts.{told_blank, told_empty, told_first}
use Rattle.text_fields.proofs.text_row.TextRow.take_line.Goals as goal

pub returns-then-is_empty : goal.returns-then-is_empty
returns-then-is_empty c more = (
  sym (told_empty c.args.number c.args.line.now c.without_return-line.result.now
      (c.args.line.now ∷ more) more _ refl c.without_return-line.ensures refl
      (sym c.is_empty.ensures ∙ c.if-is_empty.true)),
  omega arith,
  omega arith,
)

pub returns-then-not-has_row : goal.returns-then-not-has_row
returns-then-not-has_row c more = (
  sym (told_blank c.args.number c.args.line.now c.without_return-line.result.now
      (c.args.line.now ∷ more) more _ refl c.without_return-line.ensures refl
      (sym c.is_empty.ensures ∙ c.if-is_empty.false)
      (sym c.has_row.ensures ∙ c.if-not-has_row.true)),
  omega arith,
  omega arith,
)

pub returns : goal.returns
returns c more = (
  ap (map row_told)
      (told_first c.args.number c.args.line.now c.without_return-line.result.now
      (c.args.line.now ∷ more) more _ refl c.without_return-line.ensures refl
      (sym c.is_empty.ensures ∙ c.if-is_empty.false)
      (sym c.has_row.ensures ∙ c.if-not-has_row.false))
      ∙ rw c.before_comment.ensures refl,
  omega arith,
)
