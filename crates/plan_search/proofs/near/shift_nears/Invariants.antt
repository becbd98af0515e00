-- What is told of the first places so far.
use Rattle.plan_num.proofs.Common.{get_or, None}
use Rattle.plan_search.specs.Claims.{claim_at}
use Rattle.plan_search.specs.Growing.{shifted}
use Rattle.plan_search.proofs.WrittenLists.{IsTold}
use Rattle.plan_search.proofs.near.shift_nears.Given as goal

abbrev pub invariant-loop-place : goal.invariant-loop-place
invariant-loop-place l = IsTold None (λ i. shifted (claim_at l.claims i) l.slack
    (get_or l.fn.nears i None)) l.fn.nears l.nears l.place
