use Rattle.plan_num.proofs.Common.{arith}
use Rattle.delay_trials.proofs.EndsOfChanges.{none_there}
use Rattle.delay_trials.proofs.ends.has_end.Goals as goal

pub returns-then-first-ends-clause-none : goal.returns-then-first-ends-clause-none
returns-then-first-ends-clause-none c apart = grind (arith, none_there)
