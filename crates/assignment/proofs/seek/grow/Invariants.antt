-- The places that were claimed before the step are expanded.
use Rattle.plan_num.proofs.Common.{◌+◌, ◌-◌, length}
use Rattle.assignment.specs.ClaimablePlaces.{AreClaimable}
use Rattle.assignment.proofs.Expanding.{IsGrowing}
use Rattle.assignment.proofs.seek.grow.Given as goal

abbrev pub invariant-loop-step : goal.invariant-loop-step
invariant-loop-step g l = record {
  growing : IsGrowing g.search l.seeker.plan.now l.fn.claimed.claims l.claimed.claims l.step;
  claimable : AreClaimable g.search.links.count g.search.low l.seeker.plan.now l.claimed.claims l.claimed.places;
}

abbrev pub decreases-loop-step : goal.decreases-loop-step
decreases-loop-step g l = (length l.claimed.claims.at + 1) - l.step

abbrev pub ghost-expand : goal.ghost-expand
ghost-expand g a = g.search
