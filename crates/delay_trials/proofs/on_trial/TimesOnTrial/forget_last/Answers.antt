use Rattle.plan_num.proofs.Common.{subst}
use Rattle.delay_trials.specs.OnTrial.{IsLastMoved}
use Rattle.delay_trials.proofs.Undoing.{dropped_one}
use Rattle.delay_trials.proofs.on_trial.TimesOnTrial.forget_last.Goals as goal

pub loop-last-preserved : goal.loop-last-preserved
loop-last-preserved c =
    dropped_one c.args.left c.args.self.now c.loop-last.self c.last_moved.new.self _ c.loop-last.invariant
    (subst (IsLastMoved c.args.left c.loop-last.self c.last_moved.new.self) c.in-Some.is c.last_moved.ensures)
