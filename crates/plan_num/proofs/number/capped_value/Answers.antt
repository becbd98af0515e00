use Rattle.plan_num.proofs.Common.{◌≡◌, ◌+◌, ◌*◌, ◌-◌, take, get_or, arith, ap, ◌∙◌, take_more}
use Rattle.plan_num.specs.Number.{value_of}
use Rattle.plan_num.proofs.Digits.{value_of-push, value_of-none}
use Rattle.plan_num.proofs.number.capped_value.Goals as goal

pub loop-digit-init : goal.loop-digit-init
loop-digit-init c = omega (arith, value_of-none)

pub loop-digit-preserved : goal.loop-digit-preserved
loop-digit-preserved c =
    let digits = c.args.digits.now in let i = c.loop-digit.digit-index in
    let more : value_of (take (i + 1) digits)
    ≡ value_of (take i digits) * 10 + (get_or digits i 0 - 48) =
    ap value_of (take_more digits i 0 c.loop-digit-test.true)
    ∙ value_of-push (take i digits) (get_or digits i 0) in
    omega (arith, more, c.loop-digit.invariant, c.min-value.ensures, c.from.ensures)
