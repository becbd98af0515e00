use Rattle.plan_num.proofs.Common.{arith, length-map, slice_get_read}
use Rattle.line_cost_model.proofs.Driven.{over_within}
use Rattle.line_cost_model.proofs.problem.LineProblem.lines_over.Goals as goal

-- src/problem.rt:138:5
pub returns-clause-there : goal.returns-clause-there
returns-clause-there c = grind (arith, length-map, slice_get_read, over_within)
