use Rattle.plan_num.proofs.Common.{◌∙◌, ap, map, sym}
use Rattle.text_fields.specs.Rows.{parts_of}
use Rattle.text_fields.specs.Told.{row_told}
use Rattle.text_fields.proofs.ToldFacts.{rows_told, told_some}
use Rattle.text_fields.proofs.text_rows.TextRows.new.Goals as goal

pub returns-clause-all : goal.returns-clause-all
returns-clause-all c = (
  sym c.starts_with.ensures.value ∙ c.if-starts_with.false,
  rw c.new.ensures
      (ap (map row_told) (told_some (parts_of c.args.text.now) 0) ∙ sym (rows_told c.args.text.now)),
)
