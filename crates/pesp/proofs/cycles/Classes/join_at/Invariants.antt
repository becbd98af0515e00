-- The events are in classes of the same problem.
use Rattle.pesp.specs.Cycles.{AreClasses}
use Rattle.pesp.proofs.cycles.Classes.join_at.Given as goal

abbrev pub invariant-loop-index : goal.invariant-loop-index
invariant-loop-index l = AreClasses l.fn.self.pesp.now l.self
