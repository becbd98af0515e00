-- So many flags are not set so far.
use Rattle.plan_num.proofs.Common.{◌≡◌, replicate, false}
use Rattle.plan_search.proofs.claim.no_flags.Given as goal

abbrev pub invariant-loop-place : goal.invariant-loop-place
invariant-loop-place l = l.flags.items ≡ replicate l._place false
