use Rattle.plan_num.proofs.Common.{◌∙◌, ◌<◌, ◌*◌, ◌+◌, ap, arith, subst, sym}
use Rattle.bit_rows.specs.Bits.{words_of}
use Rattle.pesp.specs.Marks.{Marks, Prunes}
use Rattle.pesp.proofs.Pruned.{prune_ended, prune_word, stays_below}
use Rattle.pesp.proofs.prune.prune.Goals as goal

pub loop-index-preserved : goal.loop-index-preserved
loop-index-preserved c =
    let so = c.loop-index.invariant in
    let width = c.width-index-end.ensures.value
    ∙ ap (λ (sets : Marks). words_of sets.columns) c.sets.ensures
    ∙ ap words_of (sym so.period) in
    subst (Prunes c.args.sets.now c.keep_bits.new.self
    (stays_below c.args.event c.args.keep.now (64 * (c.loop-index.index + 1))))
    (sym c.any_of-changes.ensures)
    (prune_word c.args.sets.now c.loop-index.sets c.keep_bits.new.self c.args.event
    c.loop-index.index c.args.keep.now c.loop-index.changes c.in_ok-keep_bits.field-0
    (subst (λ events. c.args.event < events) (sym so.events) c.requires.event)
    (omega (arith, c.loop-index-test.true, width)) so c.in_ok-keep_bits.ensures)

pub returns : goal.returns
returns c =
    let width = c.width-index-end.ensures.value
    ∙ ap (λ (sets : Marks). words_of sets.columns) c.sets.ensures in
    prune_ended c.args.sets.now c.loop-index.sets c.args.event c.args.keep.now
    (64 * c.loop-index.index) c.loop-index.changes c.loop-index.invariant
    (omega (arith, c.loop-index-test.false, c.loop-index.auto.index-end, width))
