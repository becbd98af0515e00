use Rattle.plan_num.proofs.Common.{arith}
use Rattle.waiting_decisions.specs.Paths.{AreOnce, dropped_in}
use Rattle.waiting_decisions.proofs.path.Path.new.Goals as goal

pub invariant_of-result : goal.invariant_of-result
unfolding AreOnce dropped_in
invariant_of-result c = grind arith
