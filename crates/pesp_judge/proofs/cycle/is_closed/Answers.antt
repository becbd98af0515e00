use Rattle.plan_num.proofs.Common.{arith}
use Rattle.pesp_judge.proofs.Steps.{walks_more, walks_none}
use Rattle.pesp_judge.proofs.cycle.is_closed.Goals as goal

pub loop-step-init : goal.loop-step-init
loop-step-init c = walks_none c.in-Some.first.now.start

pub loop-step-preserved : goal.loop-step-preserved
loop-step-preserved c = grind (arith, walks_more)
