-- The lower bounds of the steps so far are added up.
use Rattle.plan_num.proofs.Common.{◌≡◌, take}
use Rattle.pesp_judge.specs.Cycles.{lower_sum}
use Rattle.pesp_judge.proofs.inequality.lower_sum.Given as goal

abbrev pub invariant-loop-step : goal.invariant-loop-step
invariant-loop-step l = l.sum ≡ lower_sum (take l.step-index l.steps)
