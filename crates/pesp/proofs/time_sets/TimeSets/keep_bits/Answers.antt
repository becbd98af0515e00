use Rattle.plan_num.proofs.Common.{arith, bit_and, false, reverse, subst, true, All-push}
use Rattle.pesp.specs.Marks.{KeepsBits, Tracked, saved_by}
use Rattle.pesp.proofs.Changes.{replaced_view, tracked}
use Rattle.pesp.proofs.KeptBits.{all_kept, kept_fits, some_taken, word_fits}
use Rattle.pesp.proofs.time_sets.TimeSets.keep_bits.Goals as goal

pub returns-then-new-old : goal.returns-then-new-old
returns-then-new-old c =
    subst (λ (now : Tracked). KeepsBits now now c.args.event c.args.index c.args.keep false)
    c.self.view_is
    (all_kept (tracked c.self.inside.sets
    (saved_by c.self.inside.sets (reverse c.self.inside.changes.items))) c.args.event c.args.index
    c.placed_word-place.result.0 c.placed_word-place.result.1 c.args.keep
    c.placed_word-place.ensures.sound
    c.placed_word-place.ensures.place c.placed_word-place.ensures.word c.if-new-old.true)

pub put_word-requires-clause-word : goal.put_word-requires-clause-word
put_word-requires-clause-word c =
    kept_fits c.self.inside.sets.rows c.self.inside.sets.columns c.placed_word-place.result.0
    c.placed_word-place.result.1 c.args.keep
    (word_fits c.self.inside.sets c.placed_word-place.result.0 c.placed_word-place.result.1
    c.placed_word-place.ensures.sound c.placed_word-place.ensures.word)

pub invariant_of-self-2 : goal.invariant_of-self-2
invariant_of-self-2 c =
    let sets = c.self.inside.sets in grind (arith, All-push, word_fits)

pub returns : goal.returns
returns c =
    let place = c.placed_word-place.result.0 in grind (
      arith,
      bit_and,
      tracked,
      some_taken,
      replaced_view,
    )
