use Rattle.plan_num.proofs.Common.{arith}
use Rattle.link_plans.proofs.Common.{valid_for_best}
use Rattle.assignment.proofs.solution.solve.Goals as goal

pub canonical_potentials-requires-clause-plan : goal.canonical_potentials-requires-clause-plan
canonical_potentials-requires-clause-plan c = c.in_ok-plan.ensures.best.possible

pub canonical_potentials-requires-clause-valid : goal.canonical_potentials-requires-clause-valid
canonical_potentials-requires-clause-valid c = grind (arith, valid_for_best)
