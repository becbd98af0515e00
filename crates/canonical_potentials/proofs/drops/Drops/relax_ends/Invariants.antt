-- Walks that were found stay found.
use Rattle.link_plans.proofs.Common.{links_in}
use Rattle.canonical_potentials.specs.Drops.{IsSearched}
use Rattle.canonical_potentials.proofs.drops.Drops.relax_ends.Given as goal

abbrev pub invariant-loop-i : goal.invariant-loop-i
invariant-loop-i l = IsSearched (links_in l.trips) l.plan l.self
