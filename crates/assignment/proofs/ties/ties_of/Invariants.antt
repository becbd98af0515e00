-- The ties of the trips so far.
use Rattle.link_plans.proofs.Common.{links_in}
use Rattle.assignment.proofs.LinkTies.{AreTiesSo}
use Rattle.assignment.proofs.ties.ties_of.Given as goal

abbrev pub invariant-loop-trip : goal.invariant-loop-trip
invariant-loop-trip l = AreTiesSo (links_in l.trips) l.potentials l.ties l.trip
