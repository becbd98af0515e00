use Rattle.plan_num.proofs.Common.{arith}
use Rattle.delay_trials.proofs.Turning.{still_kept}
use Rattle.delay_trials.proofs.open_changes.OpenChanges.test_some.Goals as goal

pub returns-then-at-ne0-clause-still : goal.returns-then-at-ne0-clause-still
returns-then-at-ne0-clause-still c = grind (arith, still_kept)
