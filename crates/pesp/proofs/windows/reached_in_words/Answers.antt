use Rattle.plan_num.proofs.Common.{◌≡◌, ◌∙◌, ◌||◌, ℕ, arith, subst}
use Rattle.bit_rows.specs.Bits.{marked}
use Rattle.pesp.specs.Marks.{is_left}
use Rattle.pesp.specs.Revising.{turned_to}
use Rattle.pesp.proofs.WordTurns.{clear_at, left_twice, only_turned, wide_begun}
use Rattle.pesp.proofs.WordTurns.{wide_clear, wide_ended}
use Rattle.pesp.proofs.WordTurns.{wide_turn}
use Rattle.pesp.proofs.windows.reached_in_words.Goals as goal

pub loop-wide-init : goal.loop-wide-init
loop-wide-init c = record {
  long = c.times_of-times.ensures.long;
  some = omega arith;
  few = omega arith;
  wide = grind (arith, wide_begun, left_twice);
}

pub loop-wide-preserved : goal.loop-wide-preserved
loop-wide-preserved c =
    let so = c.loop-wide.invariant in
    let period = c.period-period.ensures in
    record {
      long = c.widened-times.ensures.long;
      some = omega (arith, so.some);
      few = omega (arith, so.few, c.min-by.ensures);
      wide = wide_turn c.args.sets.now.columns (is_left c.args.sets.now c.args.event)
          c.loop-wide.wide
          c.loop-wide.times (omega (arith, period.sound.some)) so.wide c.min-by.result
          c.widened-times.result
          (omega (arith, c.min-by.ensures))
          (subst (λ (period : ℕ). (time : ℕ) → marked c.widened-times.result time
          ≡ (marked c.loop-wide.times time
          || turned_to period c.loop-wide.times c.min-by.result time))
          period.value c.widened-times.ensures.each);
    }

pub widened-times-requires : goal.widened-times-requires
widened-times-requires c =
    let so = c.loop-wide.invariant in grind (arith, clear_at, wide_clear)

pub add_turned-requires : goal.add_turned-requires
add_turned-requires c =
    let so = c.loop-wide.invariant in grind (arith, clear_at, wide_clear)

pub returns-clause-each : goal.returns-clause-each
returns-clause-each c =
    let so = c.loop-wide.invariant in
    let period = c.period-period.ensures in
    wide_ended c.args.sets.now.columns (is_left c.args.sets.now c.args.event) c.loop-wide.wide
    c.loop-wide.times (omega (arith, period.sound.some)) so.wide c.args.offset c.args.width
    c.add_turned.new.all (omega (arith, so.few, c.loop-wide-test.false))
    (λ time. c.add_turned.ensures.each time
    ∙ only_turned c.args.sets.now.columns c.period-period.result c.loop-wide.times c.args.offset
    time period.value)
