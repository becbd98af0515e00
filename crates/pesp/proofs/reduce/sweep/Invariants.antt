-- What is known behind the events so far.
use Rattle.pesp.proofs.Sweeping.{IsSwept}
use Rattle.pesp.proofs.reduce.sweep.Given as goal

abbrev pub invariant-loop-event : goal.invariant-loop-event
invariant-loop-event l = IsSwept l.pesp l.fn.sets l.sets l.changed l.end

abbrev pub decreases-loop-event : goal.decreases-loop-event
decreases-loop-event l = l.end
