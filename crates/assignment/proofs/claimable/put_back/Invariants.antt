-- The places up to the step are put back.
use Rattle.assignment.specs.ClaimablePlaces.{ArePutBack}
use Rattle.assignment.proofs.claimable.put_back.Given as goal

abbrev pub invariant-loop-step : goal.invariant-loop-step
invariant-loop-step l = ArePutBack l.claims.order l.step l.fn.places l.places
