-- The claims from the step on are left.
use Rattle.plan_num.proofs.Common.{length}
use Rattle.plan_search.proofs.Flags.{AreLeft}
use Rattle.plan_search.proofs.claim.take_back.Given as goal

abbrev pub invariant-loop-place : goal.invariant-loop-place
invariant-loop-place l = AreLeft (length l.fn.claims.items) l.order l.place-index
    l.claims.items l.flags.items
