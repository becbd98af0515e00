use Rattle.plan_num.proofs.Common.{arith, count_ones}
use Rattle.pesp.proofs.MarkCounts.{all_counted, none_counted, ones_few, word_counted}
use Rattle.pesp.proofs.marks.TimeMarks.count.Goals as goal

pub loop-index-init : goal.loop-index-init
loop-index-init c = record {
  few = omega arith;
  counted = grind (arith, none_counted);
}

pub loop-index-preserved : goal.loop-index-preserved
loop-index-preserved c = record {
  few = omega (arith, c.loop-index.invariant.few, ones_few c.word.result c.word.type_inv);
  counted = grind (arith, count_ones, word_counted);
}

pub returns : goal.returns
returns c =
    all_counted c.args.self.now c.args.event c.loop-index.index c.loop-index.count
    c.width-index-end.ensures.sound
    c.requires.event (omega arith) c.loop-index.invariant.counted
