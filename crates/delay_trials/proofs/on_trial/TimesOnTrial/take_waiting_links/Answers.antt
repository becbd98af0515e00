use Rattle.plan_num.proofs.Common.{arith}
use Rattle.delay_trials.proofs.Settling.{are_least, follows_on}
use Rattle.delay_trials.proofs.on_trial.TimesOnTrial.take_waiting_links.Goals as goal

pub returns-in_err-take_link-clause-follows : goal.returns-in_err-take_link-clause-follows
returns-in_err-take_link-clause-follows c =
    follows_on c.args.self.now c.loop-at.self c.take_link.new.self c.loop-at.invariant.follows
    c.take_link.ensures.follows

pub loop-at-smaller : goal.loop-at-smaller
loop-at-smaller c = grind arith

pub loop-at-preserved : goal.loop-at-preserved
loop-at-preserved c = record {
  settling = c.in_ok-take_link.ensures.on;
  follows = follows_on c.args.self.now c.loop-at.self c.take_link.new.self c.loop-at.invariant.follows
      c.take_link.ensures.follows;
}

pub returns-clause-least : goal.returns-clause-least
returns-clause-least c = grind (arith, are_least)
