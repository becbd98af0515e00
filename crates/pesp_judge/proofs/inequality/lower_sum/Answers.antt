use Rattle.plan_num.proofs.Common.{refl, arith, ints}
use Rattle.pesp_judge.specs.Cycles.{lower_sum}
use Rattle.pesp_judge.proofs.Steps.{lower_more}
use Rattle.pesp_judge.proofs.inequality.lower_sum.Goals as goal

pub loop-step-init : goal.loop-step-init
unfolding lower_sum
loop-step-init c = refl

pub loop-step-preserved : goal.loop-step-preserved
loop-step-preserved c = grind (arith, ints, lower_more)
