-- The potentials of the first places are raised so far.
use Rattle.plan_search.proofs.ShiftedPotentials.{AreRaised}
use Rattle.plan_search.proofs.shift.raise.Given as goal

abbrev pub invariant-loop-j : goal.invariant-loop-j
invariant-loop-j l = AreRaised l.claims l.slack l.fn.potentials l.potentials l.j
