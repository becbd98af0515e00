use Rattle.plan_num.proofs.Common.{arith}
use Rattle.line_cost_model.proofs.RootSums.{root_summed}
use Rattle.line_cost_model.proofs.summed.SummedRegion.over_root.Goals as goal

pub invariant_of-result : goal.invariant_of-result
invariant_of-result c = grind (arith, root_summed)
