-- The links so far are one step.
use Rattle.link_plans.proofs.Common.{links_in}
use Rattle.canonical_potentials.proofs.Loops.{IsPassed, LinksKept}
use Rattle.canonical_potentials.proofs.drops.Drops.relax_row.Given as goal

abbrev pub invariant-loop-link : goal.invariant-loop-link
invariant-loop-link l = IsPassed (links_in l.trips) l.plan l.fn.self l.self l.changed
    (LinksKept l.fn.self l.i l.links l.link-index)
