use Rattle.plan_num.proofs.Common.{arith}
use Rattle.line_cost_model.proofs.FewLines.{few_edges}
use Rattle.line_cost_model.proofs.edge_sums.GreatestSums.of.Goals as goal

pub returns-clause-sound : goal.returns-clause-sound
returns-clause-sound c = grind (arith, few_edges)
