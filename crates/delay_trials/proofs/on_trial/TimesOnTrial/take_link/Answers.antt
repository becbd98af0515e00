use Rattle.plan_num.proofs.Common.{◌∙◌, ap, arith, length, subst, sym, reverse}
use Rattle.delay_trials.specs.OnTrial.{IsSettling, TrialTimes}
use Rattle.delay_trials.proofs.Settling.{asks_little, link_joins, passed_over, pushed_on}
use Rattle.delay_trials.proofs.on_trial.TimesOnTrial.take_link.Goals as goal

pub push-requires-clause-joins : goal.push-requires-clause-joins
push-requires-clause-joins c =
    link_joins _ c.self.invariant.linked c.self.invariant.each c.self.invariant.waits c.args.kept.now c.args.at
    (subst (λ t. IsSettling c.args.kept.now t c.args.at) (sym c.self.view_is) c.requires.settling)
    (omega (arith, c.requires.there, ap (λ (t : TrialTimes). length t.links) c.self.view_is)) _

pub push-requires-clause-small : goal.push-requires-clause-small
push-requires-clause-small c =
    asks_little _ c.self.invariant.linked c.self.invariant.each c.self.invariant.waits c.args.kept.now c.args.at
    (subst (λ t. IsSettling c.args.kept.now t c.args.at) (sym c.self.view_is) c.requires.settling)
    (omega (arith, c.requires.there, ap (λ (t : TrialTimes). length t.links) c.self.view_is)) _

pub returns-in_ok-push-clause-on : goal.returns-in_ok-push-clause-on
returns-in_ok-push-clause-on c =
    pushed_on _ c.self.invariant.linked c.self.invariant.each c.self.invariant.waits c.args.kept.now c.args.at
    (subst (λ t. IsSettling c.args.kept.now t c.args.at) (sym c.self.view_is) c.requires.settling)
    (omega (arith, c.requires.there, ap (λ (t : TrialTimes). length t.links) c.self.view_is)) _ _ c.push.new.self
    (λ i. record {
      problem = c.self.inside.problem.now;
      links = c.self.inside.links.now;
      times = c.self.inside.times.items;
      open_yet = c.self.inside.undecided.items;
      noted = reverse c.self.inside.trail.items;
      waiting = c.set.ensures i;
    })
    (sym c.counts.ensures ∙ c.if-counts.true) c.in_ok-push.ensures.ok

pub returns-else-counts-clause-on : goal.returns-else-counts-clause-on
returns-else-counts-clause-on c =
    passed_over _ c.self.invariant.linked c.self.invariant.each c.self.invariant.waits c.args.kept.now c.args.at
    (subst (λ t. IsSettling c.args.kept.now t c.args.at) (sym c.self.view_is) c.requires.settling)
    (omega (arith, c.requires.there, ap (λ (t : TrialTimes). length t.links) c.self.view_is)) _ _
    (λ i. record {
      problem = c.self.inside.problem.now;
      links = c.self.inside.links.now;
      times = c.self.inside.times.items;
      open_yet = c.self.inside.undecided.items;
      noted = reverse c.self.inside.trail.items;
      waiting = c.set.ensures i;
    })
    (sym c.counts.ensures ∙ c.if-counts.false)
