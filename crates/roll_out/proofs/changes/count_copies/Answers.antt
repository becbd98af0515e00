use Rattle.plan_num.proofs.Common.{arith}
use Rattle.roll_out.proofs.ChangesAt.{change_size, parts_counted}
use Rattle.roll_out.proofs.changes.count_copies.Goals as goal

pub loop-earlier-preserved : goal.loop-earlier-preserved
loop-earlier-preserved c = record {
  told = grind (arith, parts_counted, change_size);
  few = omega (arith, c.loop-earlier.invariant.few, c.count_of-count.ensures.few);
}
