-- The nearest of the first places so far.
use Rattle.plan_search.proofs.NearPlaces.{IsBest}
use Rattle.plan_search.proofs.nearest.nearest_of_all.Given as goal

abbrev pub invariant-loop-place : goal.invariant-loop-place
invariant-loop-place l = IsBest l.claims l.nears l.place l.best
