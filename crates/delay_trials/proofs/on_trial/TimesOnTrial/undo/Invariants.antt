-- The times that are to come are those that were to come at first.
use Rattle.plan_num.proofs.Common.{length}
use Rattle.delay_trials.specs.OnTrial.{IsUndoing}
use Rattle.delay_trials.proofs.on_trial.TimesOnTrial.undo.Given as goal

abbrev pub invariant-loop-last : goal.invariant-loop-last
invariant-loop-last l = IsUndoing l.left l.fn.self l.self

abbrev pub decreases-loop-last : goal.decreases-loop-last
decreases-loop-last l = length l.self.noted
