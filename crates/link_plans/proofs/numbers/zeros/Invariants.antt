-- So many zeros so far.
use Rattle.plan_num.proofs.Common.{◌≡◌, replicate}
use Rattle.link_plans.proofs.numbers.zeros.Given as goal

abbrev pub invariant-loop-trip : goal.invariant-loop-trip
invariant-loop-trip l = l.numbers.items ≡ replicate l._trip 0
