use Rattle.plan_num.proofs.Common.{subst}
use Rattle.delay_trials.specs.OnTrial.{IsLastMoved}
use Rattle.delay_trials.proofs.Undoing.{undone_one}
use Rattle.delay_trials.proofs.on_trial.TimesOnTrial.undo.Goals as goal

pub loop-last-preserved : goal.loop-last-preserved
loop-last-preserved c =
    undone_one c.args.left c.args.self.now c.loop-last.self c.last_moved.new.self c.set_time.new.self c.in-Some.last
    c.loop-last.invariant
    (subst (IsLastMoved c.args.left c.loop-last.self c.last_moved.new.self) c.in-Some.is c.last_moved.ensures)
    c.set_time.ensures
