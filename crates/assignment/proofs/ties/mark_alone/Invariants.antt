-- The places so far that need no trip are marked.
use Rattle.plan_num.proofs.Common.{None, length}
use Rattle.link_plans.proofs.Common.{links_in}
use Rattle.assignment.specs.ClaimablePlaces.{IsInRow, IsRowOf}
use Rattle.plan_search.specs.Searches.{IsTightBy}
use Rattle.assignment.proofs.ties.mark_alone.Given as goal

abbrev pub invariant-loop-place : goal.invariant-loop-place
invariant-loop-place l = record {
  others : IsInRow l.fn.ties l.ties (length l.trips);
  row : IsRowOf (λ place. IsTightBy (links_in l.trips) l.potentials place None) l.place l.ties
      (length l.trips);
}
