-- No label has changed, and each stop that is reached and not settled has its walk among those that
-- are left.
use Rattle.plan_num.proofs.Common.{◌≡◌, length}
use Rattle.walks.specs.Labels.{GoesOn}
use Rattle.walks.proofs.labels.Labels.settle_nearest.Given as goal

abbrev pub invariant-loop-sum : goal.invariant-loop-sum
invariant-loop-sum l =
    record {
      same : l.self-inside.labels.items ≡ l.fn.self;
      goes : GoesOn l.self-inside.labels.items l.self-inside.frontier;
    }

abbrev pub decreases-loop-sum : goal.decreases-loop-sum
decreases-loop-sum l = length l.self-inside.frontier
