use Rattle.plan_num.proofs.Common.{◌∙◌, arith, refl, sym}
use Rattle.plan_num.proofs.Digits.{value_of-none}
use Rattle.tables.proofs.PlainFields.{more_digits, small_so_far, all_so_far}
use Rattle.tables.proofs.digits.digits_value.Goals as goal

pub loop-byte-init : goal.loop-byte-init
loop-byte-init c = record { digits = refl; value = omega (arith, value_of-none) }

pub overflow_mul-value : goal.overflow_mul-value
overflow_mul-value c =
    let small = small_so_far c.args.field.now c.loop-byte.byte-index c.loop-byte.value
    (omega arith) c.loop-byte.invariant.digits c.loop-byte.invariant.value in grind arith

pub overflow_add-value : goal.overflow_add-value
overflow_add-value c =
    let small = small_so_far c.args.field.now c.loop-byte.byte-index c.loop-byte.value
    (omega arith) c.loop-byte.invariant.digits c.loop-byte.invariant.value in grind arith

pub loop-byte-preserved : goal.loop-byte-preserved
loop-byte-preserved c =
    let next = more_digits c.args.field.now c.loop-byte.byte-index c.loop-byte-test.true
    (sym c.is_ascii_digit.ensures.value ∙ c.if-not-is_ascii_digit.false)
    c.loop-byte.invariant.digits in grind arith

pub returns-clause-digits : goal.returns-clause-digits
returns-clause-digits c =
    (all_so_far c.args.field.now c.loop-byte.byte-index c.loop-byte.value (omega arith)
    c.loop-byte.invariant.digits c.loop-byte.invariant.value).0

pub returns-clause-value : goal.returns-clause-value
returns-clause-value c =
    (all_so_far c.args.field.now c.loop-byte.byte-index c.loop-byte.value (omega arith)
    c.loop-byte.invariant.digits c.loop-byte.invariant.value).1

pub returns-clause-few : goal.returns-clause-few
returns-clause-few c =
    small_so_far c.args.field.now c.loop-byte.byte-index c.loop-byte.value (omega arith)
    c.loop-byte.invariant.digits c.loop-byte.invariant.value
