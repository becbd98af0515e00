use Rattle.plan_num.proofs.Common.{arith}
use Rattle.delay_trials.proofs.Turning.{tests_more}
use Rattle.delay_trials.proofs.open_changes.OpenChanges.test_few.Goals as goal

pub loop-at-preserved : goal.loop-at-preserved
loop-at-preserved c = grind (arith, tests_more)
