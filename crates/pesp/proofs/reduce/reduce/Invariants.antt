-- What is known between two sweeps.
use Rattle.pesp.proofs.Sweeping.{IsReducing, to_be_done}
use Rattle.pesp.proofs.reduce.reduce.Given as goal

abbrev pub invariant-loop-sets : goal.invariant-loop-sets
invariant-loop-sets l = IsReducing l.pesp l.fn.sets l.sets l.changed

abbrev pub decreases-loop-sets : goal.decreases-loop-sets
decreases-loop-sets l = to_be_done l.sets l.changed
