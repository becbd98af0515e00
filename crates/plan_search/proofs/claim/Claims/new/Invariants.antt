-- So many places have no claim so far.
use Rattle.plan_num.proofs.Common.{◌≡◌, replicate, None}
use Rattle.plan_search.proofs.claim.Claims.new.Given as goal

abbrev pub invariant-loop-place : goal.invariant-loop-place
invariant-loop-place l = l.claims.items ≡ replicate l._place None
