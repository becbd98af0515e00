-- Notes were only dropped.
use Rattle.plan_num.proofs.Common.{length}
use Rattle.delay_trials.specs.OnTrial.{IsDropping}
use Rattle.delay_trials.proofs.on_trial.TimesOnTrial.forget_last.Given as goal

abbrev pub invariant-loop-last : goal.invariant-loop-last
invariant-loop-last l = IsDropping l.left l.fn.self l.self

abbrev pub decreases-loop-last : goal.decreases-loop-last
decreases-loop-last l = length l.self.noted
