-- The best of the nodes so far.
use Rattle.canonical_potentials.proofs.Walking.{IsBestOf}
use Rattle.canonical_potentials.proofs.walk.furthest.Given as goal

abbrev pub invariant-loop-place : goal.invariant-loop-place
invariant-loop-place l = IsBestOf l.drops l.waiting l.place l.best l.most
