-- The times of the words so far are taken out that have no bit.
use Rattle.plan_num.proofs.Common.{◌*◌}
use Rattle.pesp.specs.Marks.{Prunes}
use Rattle.pesp.proofs.Pruned.{stays_below}
use Rattle.pesp.proofs.prune.prune.Given as goal

abbrev pub invariant-loop-index : goal.invariant-loop-index
invariant-loop-index l =
    Prunes l.fn.sets l.sets (stays_below l.event l.keep (64 * l.index)) l.changes
