-- What was claimed stays so, each place so far is claimed, and the others still can be.
use Rattle.assignment.proofs.ClaimingAll.{IsClaiming}
use Rattle.assignment.proofs.seek.claim_all.Given as goal

abbrev pub invariant-loop-place : goal.invariant-loop-place
invariant-loop-place g l = IsClaiming g.search l.seeker.plan.now l.fn.claimed.claims l.claimed.claims l.place-items
    l.place-index l.claimed.places
