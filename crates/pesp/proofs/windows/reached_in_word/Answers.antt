use Rattle.plan_num.proofs.Common.{◌≡◌, ◌∙◌, ◌||◌, ℕ, [], ◌∷◌, ap, arith, bit_or, slice_set, subst}
use Rattle.bit_rows.specs.Bits.{marked}
use Rattle.pesp.specs.Marks.{is_left}
use Rattle.pesp.specs.Revising.{turned_to}
use Rattle.pesp.proofs.OneWord.{both_words, word_alone, word_begun}
use Rattle.pesp.proofs.WordTurns.{wide_ended, wide_turn, zeros}
use Rattle.pesp.proofs.windows.reached_in_word.Goals as goal

pub loop-span-init : goal.loop-span-init
loop-span-init c = record {
  some = omega arith;
  few = omega arith;
  wide = grind (arith, word_begun);
}

pub loop-span-preserved : goal.loop-span-preserved
loop-span-preserved c =
    let so = c.loop-span.invariant in
    let period = c.period-period.ensures in
    let times = c.loop-span.times in
    record {
      some = omega (arith, so.some);
      few = omega (arith, so.few, c.min-by.ensures);
      wide = wide_turn c.args.sets.now.columns (is_left c.args.sets.now c.args.event)
          c.loop-span.span (times ∷ []) (omega (arith, period.sound.some)) so.wide c.min-by.result
          (bit_or times c.turned-times.result ∷ []) (omega (arith, c.min-by.ensures))
          (λ time. both_words times c.turned-times.result time
          ∙ ap (λ b. marked (times ∷ []) time || b)
          (subst (λ (period : ℕ). marked (c.turned-times.result ∷ []) time
          ≡ turned_to period (times ∷ []) c.min-by.result time) period.value
          (c.turned-times.ensures time)));
    }

pub returns-clause-each : goal.returns-clause-each
returns-clause-each c =
    let so = c.loop-span.invariant in
    let period = c.period-period.ensures in
    let times = c.loop-span.times in
    wide_ended c.args.sets.now.columns (is_left c.args.sets.now c.args.event) c.loop-span.span
    (times ∷ []) (omega (arith, period.sound.some)) so.wide c.args.offset c.args.width
    (slice_set zeros 0 c.turned.result)
    (omega (arith, so.few, c.loop-span-test.false))
    (λ time. word_alone c.turned.result time
    ∙ subst (λ (period : ℕ). marked (c.turned.result ∷ []) time
    ≡ turned_to period (times ∷ []) c.args.offset time) period.value (c.turned.ensures time))
