-- The steps so far lead from the first event to where the next one starts.
use Rattle.plan_num.proofs.Common.{take}
use Rattle.pesp_judge.specs.Cycles.{Walks}
use Rattle.pesp_judge.proofs.cycle.is_closed.Given as goal

abbrev pub invariant-loop-step : goal.invariant-loop-step
invariant-loop-step l = Walks l.first.start (take l.step-index l.steps) l.at
