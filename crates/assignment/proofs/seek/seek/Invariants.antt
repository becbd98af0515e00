-- What is claimed is expanded, and no place before the present one is left.
use Rattle.assignment.proofs.Claimed.{IsSeeking}
use Rattle.assignment.proofs.seek.seek.Given as goal

abbrev pub invariant-loop-place : goal.invariant-loop-place
invariant-loop-place g l = IsSeeking g.search l.seeker.plan.now l.claimed.claims l.place-items l.own
    l.place-index l.claimed.places

abbrev pub ghost-grow : goal.ghost-grow
ghost-grow g a = g.search
