use Rattle.stage_driver.proofs.PlansPassed.{best_found, feasible_found}
use Rattle.stage_driver.proofs.check.check_chain.Goals as goal

pub returns-clause-feasible : goal.returns-clause-feasible
returns-clause-feasible g c = feasible_found _ _ c.check_chain.ensures.passes

pub returns-clause-best : goal.returns-clause-best
returns-clause-best g c = best_found _ _ c.check_chain.ensures.passes
