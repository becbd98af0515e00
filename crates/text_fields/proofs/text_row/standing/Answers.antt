use Rattle.plan_num.proofs.Common.{◌≡◌, ◌+◌, ◌-◌, ◌∙◌, [], ap, arith, get_or, length, refl, sym}
use Rattle.csv.specs.Records.{fields_of}
use Rattle.text_fields.specs.Told.{returns}
use Rattle.text_fields.proofs.FieldFacts.{piece_is}
use Rattle.text_fields.proofs.PlainRows.{all_unreturned}
use Rattle.text_fields.proofs.text_row.standing.Goals as goal

pub returns-else-returns : goal.returns-else-returns
returns-else-returns c =
    let fields = fields_of c.args.pieces.now in
    let last : c.unwrap_or.result.now ≡ get_or fields (c.len.result - 1) [] =
    ap (λ piece. piece.now) c.unwrap_or.ensures
    ∙ piece_is _ _ _ (c.len.result - 1) c.get.ensures.value refl in
    let end : c.len.result - 1 + 1 ≡ length fields =
    omega (arith, c.len.ensures, c.requires) in
    sym (all_unreturned fields (c.len.result - 1) end
    (ap returns (sym last) ∙ sym c.returns.ensures ∙ c.if-returns.false))
