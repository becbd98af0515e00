use Rattle.plan_num.proofs.Common.{length, arith, length_push}
use Rattle.std.proofs.lemmas.Slice.Zip.{zip_turn, zip_end}
use Rattle.plan_num.specs.Print.{places}
use Rattle.plan_num.proofs.Digits.{value_at-turn, value_at-end, value_at-small, value_at-zero}
use Rattle.plan_num.proofs.number.millionths.Goals as goal

pub overflow_add-sum : goal.overflow_add-sum
overflow_add-sum c = grind (arith, zip_turn, value_at-turn, value_at-small)

pub loop-place-preserved : goal.loop-place-preserved
loop-place-preserved c =
    let t =
    zip_turn places c.args.fraction.now c.loop-place.yielded c.into_iter-place-iterator.result
    c.loop-place.place-iterator c.next.new.self c.next.result (cc)
    (cc) c.loop-place.yielded_by _ c.in-Some.is c.next.ensures.steps in
    let step = value_at-turn places c.args.fraction.now _ _ _ t.0 t.1 (t.2 0) (t.3 0) in
    rw (
      length_push c.loop-place.yielded
          (c.in-Some.place, c.in-Some.digit),
      c.from-in-loop-place.ensures,
      c.from.ensures,
    )
    (omega (arith, step, c.loop-place.invariant))

pub returns-clause-value : goal.returns-clause-value
returns-clause-value c =
    let done =
    zip_end places c.args.fraction.now c.loop-place.yielded c.into_iter-place-iterator.result
    c.loop-place.place-iterator c.next.new.self c.next.result (cc)
    (cc) c.loop-place.yielded_by c.in-None.is c.next.ensures.steps in
    omega (
      arith,
      value_at-end places c.args.fraction.now
          (length c.loop-place.yielded) done,
      c.loop-place.invariant,
    )

pub returns-clause-small : goal.returns-clause-small
returns-clause-small c =
    omega (arith, value_at-small places c.args.fraction.now c.requires, c.loop-place.invariant)

pub returns-clause-zero : goal.returns-clause-zero
returns-clause-zero c =
    λ zeros. omega (arith, value_at-zero places c.args.fraction.now zeros, c.loop-place.invariant)
