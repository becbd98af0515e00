use Rattle.plan_num.proofs.Common.{arith, ◌∙◌, eqb, sym}
use Rattle.text_fields.proofs.Skipping.{skip_piece}
use Rattle.text_fields.proofs.find.place_of_byte.Goals as goal

pub pieces-preserved : goal.pieces-preserved
pieces-preserved c =
    let next = skip_piece (λ other. eqb other c.args.byte) c.args.text.now c.pieces.rest.now
    c.split_at.result.0.now c.split_at.result.1.now 16 c.pieces-test.true
    c.split_at.ensures.front c.split_at.ensures.back (sym c.has_byte.ensures ∙ c.if-has_byte.false)
    c.pieces.invariant.within c.pieces.invariant.same in grind arith
