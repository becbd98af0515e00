use Rattle.plan_num.proofs.Common.{◌≡◌, ◌∙◌, Some, ap, arith, of_z, sym, to_z, w64}
use Rattle.std.proofs.lemmas.Int.{to_z-of_z}
use Rattle.tables.proofs.PlainFields.{plain_fixed_is}
use Rattle.tables.proofs.digits.plain_fixed.Goals as goal

pub returns-in-Some : goal.returns-in-Some
returns-in-Some c =
    let same : to_z w64 (of_z w64 c.signed.result) ≡ c.signed.result = grind (arith, to_z-of_z) in
    plain_fixed_is c.args.piece.now _ c.behind_space.ensures c.in-Some.value
    c.in-Some.ensures.some c.in-Some.ensures.digits c.in-Some.ensures.value
    c.if-value-lt-UNITS_LIMIT.true ∙ ap Some (sym (same ∙ c.signed.ensures))
