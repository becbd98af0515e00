use Rattle.plan_num.proofs.Common.{◌≡◌, ◌∙◌, ◌<◌, ◌+◌, ◌+ℤ◌, length, drop, zip, get_or, ap, arith}
use Rattle.plan_num.proofs.Common.{to_z, of_z, ints}
use Rattle.std.proofs.lemmas.Int.{to_z-of_z}
use mir.Syntax.{w128}
use Rattle.event_tables.specs.declared.expanded_event.ExpandedEvent.{ExpandedEvent}
use Rattle.event_tables.proofs.Common.{is_arrival}
use Rattle.propagation.proofs.Common.{more_delay, late_in, late_more}
use Rattle.delay_management.proofs.day_lateness.delay_at.Goals as goal

pub loop-index-preserved : goal.loop-index-preserved
loop-index-preserved c =
    let events = c.args.events.now in let times = c.args.times.now in let i = c.loop-index.index in
    let within : i < length times = omega (arith, c.loop-index-test.true, c.requires.each) in
    let S = to_z w128 c.loop-index.sum-bits in let L = c.more_delay-sum.result in
    let high = c.loop-index.invariant.high in let low = c.loop-index.invariant.low in let few = c.requires.few in
    let most = c.more_delay-sum.ensures.most in let least = c.more_delay-sum.ensures.least in
    let is : to_z w128 (of_z w128 (S +ℤ to_z w128 (of_z w128 L))) ≡ S +ℤ L =
    ap (λ z. to_z w128 (of_z w128 (S +ℤ z))) (to_z-of_z w128 L (record { sfits = c.more_delay-sum.type_inv }))
    ∙ to_z-of_z w128 (S +ℤ L) (omega (arith, ints, high, low, most, least, few, c.loop-index-test.true)) in
    record {
      told = ap (λ sum. late_in (λ (e : ExpandedEvent). e.time) (λ e. is_arrival e.kind) sum
          (zip (drop (i + 1) events) (drop (i + 1) times))) is
          ∙ late_more (λ (e : ExpandedEvent). e.time)
          (λ e. is_arrival e.kind) events times i _ c.loop-index-test.true within S L
          (c.more_delay-sum.ensures.value
          ∙ (λ j. more_delay (c.day_event.ensures j) (c.from.ensures j) (get_or times i 0)))
          ∙ c.loop-index.invariant.told;
      high = omega (arith, ints, is, high, most);
      low = omega (arith, ints, is, low, least);
    }
