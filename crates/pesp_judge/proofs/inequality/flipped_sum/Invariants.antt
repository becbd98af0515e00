-- The spans of the flipped ones of the steps so far are added up.
use Rattle.plan_num.proofs.Common.{◌≡◌, take}
use Rattle.pesp_judge.specs.Cycles.{count_in, flipped_sum}
use Rattle.pesp_judge.proofs.inequality.flipped_sum.Given as goal

abbrev pub invariant-loop-step : goal.invariant-loop-step
invariant-loop-step l = l.sum ≡ flipped_sum (count_in l.weighing) (take l.step-index l.steps)
