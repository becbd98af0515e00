use Rattle.std.proofs.Common.{◌*◌, arith}
use Rattle.bit_rows.proofs.FullRows.{AreFull, all_set, are_bits, one_word_more}
use Rattle.bit_rows.proofs.rows.BitRows.all.Goals as goal
use Rattle.bit_rows.specs.Bits.{words_of}

pub loop-place-preserved : goal.loop-place-preserved
loop-place-preserved c =
    one_word_more c.args.columns c.loop-place.place c.full_word.result c.loop-place.words.items
    c.push.new.self.items c.loop-place.invariant c.full_word.ensures c.in_ok-push.ensures.items

are_full : (c : goal.After-loop-place)
    → AreFull c.args.columns c.loop-place.words.items (c.args.rows * words_of c.args.columns)
are_full c = grind (arith, AreFull)

pub invariant_of-result : goal.invariant_of-result
invariant_of-result c =
    are_bits c.args.columns c.args.rows c.requires.some c.requires.few_columns
    c.loop-place.words.items (are_full c)

pub returns-clause-sound : goal.returns-clause-sound
returns-clause-sound c = invariant_of-result c

pub returns-clause-all : goal.returns-clause-all
returns-clause-all c =
    all_set c.args.columns c.args.rows c.requires.some c.requires.few_columns
    c.loop-place.words.items (are_full c)
