use Rattle.plan_num.proofs.Common.{◌∙◌, arith, refl, length-set}
use Rattle.bit_rows.proofs.RowBits.{bit_there}
use Rattle.pesp.proofs.MarkCounts.{all_copied, no_first, one_copied}
use Rattle.pesp.proofs.WordTurns.{no_bits}
use Rattle.pesp.proofs.marks.TimeMarks.times_of.Goals as goal

pub loop-index-init : goal.loop-index-init
loop-index-init c = record {
  long = refl;
  each = λ time. no_bits time ∙ no_first (bit_there c.args.self.now c.args.event) time;
}

pub loop-index-preserved : goal.loop-index-preserved
loop-index-preserved c = record {
  long = length-set c.loop-index.times c.loop-index.index _ ∙ c.loop-index.invariant.long;
  each = grind (arith, one_copied);
}

pub returns-clause-each : goal.returns-clause-each
returns-clause-each c time =
    c.loop-index.invariant.each time
    ∙ all_copied c.args.self.now c.args.event c.loop-index.index c.width-index-end.ensures.sound
    c.requires.event (omega arith) time
