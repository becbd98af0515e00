-- The places so far at which the trip is tight are marked.
use Rattle.plan_num.proofs.Common.{Some, length}
use Rattle.link_plans.proofs.Common.{links_in, reached}
use Rattle.assignment.specs.ClaimablePlaces.{IsInRow, IsRowOf}
use Rattle.plan_search.specs.Searches.{IsTightBy}
use Rattle.assignment.proofs.ties.mark_trip.Given as goal

abbrev pub invariant-loop-link : goal.invariant-loop-link
invariant-loop-link l = record {
  others : IsInRow l.fn.ties l.ties l.trip;
  row : IsRowOf (λ place. IsTightBy (links_in l.trips) l.potentials place (Some l.trip))
      (reached (length l.trips) l.links l.link-index) l.ties l.trip;
}
