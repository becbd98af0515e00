use Rattle.plan_num.proofs.Common.{arith, length-set}
use Rattle.pesp.proofs.FlagBits.{one_more_set}
use Rattle.pesp.proofs.flags.EventFlags.all.Goals as goal

pub loop-event-preserved : goal.loop-event-preserved
loop-event-preserved c = record {
  events = grind (arith, length-set);
  set = λ event low. grind (arith, one_more_set);
}
