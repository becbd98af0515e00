use Rattle.plan_num.proofs.Common.{arith}
use Rattle.giv_files.proofs.Common.{right_given}
use Rattle.roll_out.proofs.RolloutReads.{rollout_is_right}
use Rattle.roll_out.proofs.stage.make_rollout.Goals as goal

pub returns-clause-right : goal.returns-clause-right
returns-clause-right g c = grind (arith, right_given, rollout_is_right)
