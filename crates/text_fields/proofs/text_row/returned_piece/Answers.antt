use Rattle.plan_num.proofs.Common.{◌∙◌, [], ap, sym, unwrap_or, strip_carriage_return}
use Rattle.csv.specs.Records.{fields_of}
use Rattle.text_fields.proofs.FieldFacts.{field_or_nothing}
use Rattle.text_fields.proofs.PlainRows.{last_unreturned, none_unreturned, other_unreturned}
use Rattle.text_fields.proofs.text_row.returned_piece.Goals as goal

pub returns-in-None : goal.returns-in-None
returns-in-None c =
    let fields = fields_of c.args.pieces.now in
    sym (none_unreturned fields c.args.index
    (sym (ap (λ found. unwrap_or found []) c.in-None.ensures.value
    ∙ field_or_nothing fields c.args.index)))

pub returns-then-index-len : goal.returns-then-index-len
returns-then-index-len c =
    let fields = fields_of c.args.pieces.now in
    c.without_return.ensures
    ∙ ap strip_carriage_return (ap (λ found. unwrap_or found []) c.in-Some.ensures.value
    ∙ field_or_nothing fields c.args.index)
    ∙ sym (last_unreturned fields c.args.index (c.if-index-len.true ∙ c.len.ensures))

pub returns-else-index-len : goal.returns-else-index-len
returns-else-index-len c =
    let fields = fields_of c.args.pieces.now in
    ap (λ found. unwrap_or found []) c.in-Some.ensures.value
    ∙ field_or_nothing fields c.args.index
    ∙ sym (other_unreturned fields c.args.index
    (λ last. c.if-index-len.false (last ∙ sym c.len.ensures)))
