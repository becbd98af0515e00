-- So many times none so far.
use Rattle.plan_num.proofs.Common.{◌≡◌, replicate, None}
use Rattle.canonical_potentials.proofs.linked_plan.nobody.Given as goal

abbrev pub invariant-loop-trip : goal.invariant-loop-trip
invariant-loop-trip l = l.made.items ≡ replicate l._trip None
