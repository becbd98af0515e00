-- The times are on the way to the least ones, and the times before can be had again.
use Rattle.plan_num.proofs.Common.{◌-◌, length}
use Rattle.delay_trials.specs.OnTrial.{Follows, IsSettling}
use Rattle.delay_trials.proofs.on_trial.TimesOnTrial.take_waiting_links.Given as goal

abbrev pub invariant-loop-at : goal.invariant-loop-at
invariant-loop-at l = record {
  settling : IsSettling l.kept l.self l.from;
  follows : Follows l.fn.self l.self;
}

abbrev pub decreases-loop-at : goal.decreases-loop-at
decreases-loop-at l = length l.self.links - l.from
