-- The trips so far have claimed all.
use Rattle.assignment.specs.ClaimablePlaces.{AreClaimable}
use Rattle.assignment.proofs.Expanding.{AreLast}
use Rattle.assignment.proofs.seek.expand_last.Given as goal

abbrev pub invariant-loop-by : goal.invariant-loop-by
invariant-loop-by g l = record {
  last : AreLast g.search l.seeker.plan.now l.fn.claimed.claims l.claimed.claims l.by;
  claimable : AreClaimable g.search.links.count g.search.low l.seeker.plan.now l.claimed.claims l.claimed.places;
}

abbrev pub ghost-claim_all : goal.ghost-claim_all
ghost-claim_all g a = g.search
