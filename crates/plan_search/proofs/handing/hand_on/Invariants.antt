-- The place can be handed on so far, and each step leaves one that was claimed sooner.
use Rattle.plan_search.specs.Claims.{claim_at}
use Rattle.plan_search.specs.Searches.{step_of}
use Rattle.plan_search.proofs.HandingOn.{IsHanding}
use Rattle.plan_search.proofs.handing.hand_on.Given as goal

abbrev pub invariant-loop-from : goal.invariant-loop-from
invariant-loop-from g l = IsHanding g.search l.claims l.fn.assignment l.assignment l.place

abbrev pub decreases-loop-from : goal.decreases-loop-from
decreases-loop-from g l = step_of (claim_at l.claims l.place)

abbrev pub ghost-pass_on : goal.ghost-pass_on
ghost-pass_on g a = g.search
