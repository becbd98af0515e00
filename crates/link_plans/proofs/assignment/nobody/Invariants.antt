-- So many times none so far.
use Rattle.plan_num.proofs.Common.{◌≡◌, replicate, None}
use Rattle.link_plans.proofs.assignment.nobody.Given as goal

abbrev pub invariant-loop-trip : goal.invariant-loop-trip
invariant-loop-trip l = l.made.items ≡ replicate l._trip None
