use Rattle.plan_num.proofs.Common.{arith}
use Rattle.delay_trials.proofs.Turning.{room_more, tests_more}
use Rattle.delay_trials.proofs.open_changes.OpenChanges.test_block.Goals as goal

pub loop-place-preserved : goal.loop-place-preserved
loop-place-preserved c = grind (arith, tests_more, room_more)
