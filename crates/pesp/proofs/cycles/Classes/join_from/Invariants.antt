-- The events are in classes of the same problem.
use Rattle.pesp.specs.Cycles.{AreClasses}
use Rattle.pesp.proofs.cycles.Classes.join_from.Given as goal

abbrev pub invariant-loop-turn : goal.invariant-loop-turn
invariant-loop-turn l = AreClasses l.fn.self.pesp.now l.self
