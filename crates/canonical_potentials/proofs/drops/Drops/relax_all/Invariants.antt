-- The arcs so far are one step.
use Rattle.link_plans.proofs.Common.{links_in}
use Rattle.canonical_potentials.proofs.Loops.{IsPassed, TripsKept}
use Rattle.canonical_potentials.proofs.drops.Drops.relax_all.Given as goal

abbrev pub invariant-loop-i : goal.invariant-loop-i
invariant-loop-i l = IsPassed (links_in l.trips) l.plan l.fn.self l.self l.changed
    (TripsKept (links_in l.trips) l.plan l.fn.self l.i)
