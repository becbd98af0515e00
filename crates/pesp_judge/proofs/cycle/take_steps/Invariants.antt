-- The steps so far are steps of the problem.
use Rattle.plan_num.proofs.Common.{All}
use Rattle.pesp_judge.specs.Cycles.{IsStep}
use Rattle.pesp_judge.proofs.cycle.take_steps.Given as goal

abbrev pub invariant-loop-row : goal.invariant-loop-row
invariant-loop-row l = All (IsStep l.weighted) l.steps.items
