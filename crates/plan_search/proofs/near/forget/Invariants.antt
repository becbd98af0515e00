-- Nothing is near the first places so far.
use Rattle.plan_num.proofs.Common.{None}
use Rattle.plan_search.proofs.WrittenLists.{IsTold}
use Rattle.plan_search.proofs.near.forget.Given as goal

abbrev pub invariant-loop-place : goal.invariant-loop-place
invariant-loop-place l = IsTold None (λ i. None) l.fn.nears l.nears l.place
