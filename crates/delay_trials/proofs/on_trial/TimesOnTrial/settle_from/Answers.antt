use Rattle.delay_trials.proofs.Settling.{follows_on, pushed_first}
use Rattle.delay_trials.proofs.on_trial.TimesOnTrial.settle_from.Goals as goal

pub take_waiting_links-requires : goal.take_waiting_links-requires
take_waiting_links-requires c =
    pushed_first c.args.self.now c.args.kept.now c.args.step c.requires c.push.new.self c.in_ok-push.ensures.ok

pub returns-clause-follows : goal.returns-clause-follows
returns-clause-follows c =
    follows_on c.args.self.now c.push.new.self c.take_waiting_links.new.self c.in_ok-push.ensures.ok.follows
    c.take_waiting_links.ensures.follows
