use Rattle.plan_num.proofs.Common.{refl, arith, ints}
use Rattle.pesp_judge.specs.Cycles.{flipped_sum}
use Rattle.pesp_judge.proofs.Steps.{flipped_more}
use Rattle.pesp_judge.proofs.inequality.flipped_sum.Goals as goal

pub loop-step-init : goal.loop-step-init
unfolding flipped_sum
loop-step-init c = refl

pub loop-step-preserved : goal.loop-step-preserved
loop-step-preserved c = grind (arith, ints, flipped_more)
