use Rattle.plan_num.proofs.Common.{arith, subst, sym, reverse}
use Rattle.delay_trials.specs.OnTrial.{IsLastMoved}
use Rattle.delay_trials.proofs.OnTrialFacts.{last_is, popped}
use Rattle.delay_trials.proofs.on_trial.TimesOnTrial.last_moved.Goals as goal

pub invariant_of-self : goal.invariant_of-self
invariant_of-self c = popped _ _ _ _ _ _ _ _ c.self.invariant c.self.inside.trail.items c.pop.new.self.items
    c.pop.result (λ i. reverse c.self.inside.trail.items) c.pop.ensures.items

pub returns : goal.returns
returns c =
    subst (λ old. IsLastMoved c.args.left old (record {
      problem = c.self.inside.problem.now;
      links = c.self.inside.links.now;
      times = c.self.inside.times.items;
      open_yet = c.self.inside.undecided.items;
      noted = reverse c.pop.new.self.items;
      waiting = c.self.inside.waiting;
    }) c.pop.result) c.self.view_is
    (last_is _ _ _ _ _ _ _ _ c.self.invariant c.args.left c.self.inside.trail.items c.pop.new.self.items c.pop.result
    (λ i. reverse c.self.inside.trail.items)
    (omega (arith, c.if-len-left.false, c.len.ensures, c.self.inside.trail.ok.0)) _
    (sym c.self.inside.trail.ok.0) _ _ c.pop.ensures.cases c.pop.ensures.items)
