-- Walks that were found stay found.
use Rattle.link_plans.proofs.Common.{links_in}
use Rattle.canonical_potentials.specs.Drops.{IsSearched}
use Rattle.canonical_potentials.proofs.drops.Drops.walk.Given as goal

abbrev pub invariant-loop-turn : goal.invariant-loop-turn
invariant-loop-turn l = IsSearched (links_in l.trips) l.plan l.self
