use Rattle.std.proofs.Common.{◌∙◌, ◌++◌, ap, arith, refl}
use Rattle.bit_rows.proofs.rows.BitRows.push_common.Goals as goal
use Rattle.bit_rows.proofs.Columns.{all_common, word_pushed}

pub loop-index-preserved : goal.loop-index-preserved
loop-index-preserved c =
    word_pushed c.args.self.now c.args.row c.args.other.now c.args.other_row c.requires.columns
    c.word.ensures.sound c.word-in-loop-index.ensures.sound c.requires.row c.requires.other_row
    c.loop-index.index _ c.word.result c.word-in-loop-index.result c.args.found.now.items
    c.loop-index.found.items c.push_places.new.found.items (omega arith) refl
    c.word.ensures.value c.word-in-loop-index.ensures.value c.in_ok-push_places.ensures
    c.loop-index.invariant

pub returns : goal.returns
returns c =
    c.loop-index.invariant
    ∙ ap (λ columns. c.args.found.now.items ++ columns)
    (all_common c.args.self.now c.args.row c.args.other.now c.args.other_row
    c.loop-index.index (omega arith))
