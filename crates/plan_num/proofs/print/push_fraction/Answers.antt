use Rattle.plan_num.proofs.Common.{◌≡◌, arith}
use Rattle.plan_num.specs.Print.{places}
use Rattle.plan_num.proofs.Places.{next_limit, place_positive, digits_more, digits_of_zero}
use Rattle.plan_num.proofs.Places.{no_places, digit_moves, digits_done, fraction_told}
use Rattle.plan_num.proofs.print.push_fraction.Goals as goal

pub loop-place-preserved : goal.loop-place-preserved
loop-place-preserved c =
    let i = c.loop-place.place-index in
    let positive = place_positive i c.loop-place-test.true in
    record {
      fits = rw next_limit (omega (arith, positive));
      told =
          digit_moves c.loop-place.bytes.items _ _ _ _ _ c.in_ok-push-2.ensures.items
          (digits_more places i c.loop-place.rest c.loop-place-test.true c.if-rest-eq0.false)
          c.loop-place.invariant.told;
    }

pub returns-then-rest-eq0 : goal.returns-then-rest-eq0
returns-then-rest-eq0 c =
    fraction_told _ _ _ c.args.millionths c.if-millionths-eq0.false c.in_ok-push.ensures.items
    (digits_done c.loop-place.bytes.items _ _
    (rw c.if-rest-eq0.true (digits_of_zero _)) c.loop-place.invariant.told)

pub returns-after-loop-place : goal.returns-after-loop-place
returns-after-loop-place c =
    let past : c.loop-place.place-index ≡ 6 = omega arith in
    fraction_told _ _ _ c.args.millionths c.if-millionths-eq0.false c.in_ok-push.ensures.items
    (digits_done c.loop-place.bytes.items _ _
    (rw past (no_places c.loop-place.rest)) c.loop-place.invariant.told)
