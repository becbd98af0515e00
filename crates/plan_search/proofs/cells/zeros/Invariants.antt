-- So many zeros so far.
use Rattle.plan_num.proofs.Common.{◌≡◌, replicate}
use Rattle.plan_search.proofs.cells.zeros.Given as goal

abbrev pub invariant-loop-place : goal.invariant-loop-place
invariant-loop-place l = l.numbers.items ≡ replicate l._place 0
