-- What is told of the changes so far and of those that are left is told of all.
use Rattle.plan_num.proofs.Common.{◌≡◌, ◌+◌, ◌++◌, drop, map}
use Rattle.propagation.specs.LeastTimes.{time_at}
use Rattle.propagation.specs.Problems.{planned_at}
use Rattle.propagation.specs.Waiting.{waits}
use Rattle.propagation.proofs.waiting.kept_by.Given as goal

abbrev pub invariant-loop-change : goal.invariant-loop-change
invariant-loop-change l =
    l.kept.items ++ map
    (λ change. waits l.wait (time_at l.alone change.step.from + change.step.lower) (planned_at l.events change.step.to))
    (drop l.change-index l.changes)
    ≡ map
    (λ change. waits l.wait (time_at l.alone change.step.from + change.step.lower) (planned_at l.events change.step.to))
    l.changes
