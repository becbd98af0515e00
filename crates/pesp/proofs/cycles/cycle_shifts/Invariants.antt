-- The events are in classes of the problem.
use Rattle.pesp.specs.Cycles.{AreClasses}
use Rattle.pesp.proofs.cycles.cycle_shifts.Given as goal

abbrev pub invariant-loop-event : goal.invariant-loop-event
invariant-loop-event l = AreClasses l.pesp l.classes
