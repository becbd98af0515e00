-- The potentials of the first trips are lowered so far.
use Rattle.plan_search.proofs.ShiftedPotentials.{AreLowered}
use Rattle.plan_search.proofs.shift.lower.Given as goal

abbrev pub invariant-loop-i : goal.invariant-loop-i
invariant-loop-i l = AreLowered l.trip l.assignment l.claims l.slack l.fn.potentials l.potentials l.i
