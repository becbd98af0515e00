-- So many trips have no successor so far.
use Rattle.plan_num.proofs.Common.{◌≡◌, replicate, None}
use Rattle.link_plans.proofs.plan.Plan.empty.Given as goal

abbrev pub invariant-loop-trip : goal.invariant-loop-trip
invariant-loop-trip l = l.successors.items ≡ replicate l._trip None
