use Rattle.plan_num.proofs.Common.{arith}
use Rattle.giv_files.proofs.Common.{right_given}
use Rattle.demand_load.proofs.LoadReads.{loads_are_right}
use Rattle.demand_load.proofs.stage.make_load.Goals as goal

pub returns-clause-right : goal.returns-clause-right
returns-clause-right g c = grind (arith, right_given, loads_are_right)
