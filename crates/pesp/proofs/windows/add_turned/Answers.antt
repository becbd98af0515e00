use Rattle.plan_num.proofs.Common.{◌∙◌, arith, length-set}
use Rattle.pesp.proofs.WordTurns.{all_added, and_under, none_added, one_added}
use Rattle.pesp.proofs.windows.add_turned.Goals as goal

pub loop-index-init : goal.loop-index-init
loop-index-init c = record {
  long = c.requires.all_long;
  each = none_added c.args.period c.args.by c.args.all.now c.args.times.now;
}

pub loop-index-preserved : goal.loop-index-preserved
loop-index-preserved c = record {
  long = length-set c.loop-index.all c.loop-index.index _ ∙ c.loop-index.invariant.long;
  each = one_added c.args.period c.args.by c.loop-index.index c.args.all.now c.loop-index.all
      c.args.times.now
      c.cut.result (omega arith) (omega arith) c.loop-index.invariant.each
      (λ bit low. c.cut.ensures bit low
      ∙ and_under bit _ _ _ (λ inside. c.word_round.ensures bit low (omega arith)));
}

pub returns-clause-each : goal.returns-clause-each
returns-clause-each c time =
    c.loop-index.invariant.each time
    ∙ all_added c.args.period c.args.by c.loop-index.index c.args.all.now c.args.times.now time
    (omega arith)
