use Rattle.plan_num.proofs.Common.{◌∙◌, ◌&&◌, ap, arith, false, get_or, length, slice_set}
use Rattle.propagation.proofs.Common.{is_broken}
use Rattle.delay_trials.specs.OnTrial.{TrialTimes}
use Rattle.delay_trials.proofs.OnTrialFacts.{day_is, opened}
use Rattle.delay_trials.proofs.on_trial.TimesOnTrial.set_open.Goals as goal

pub invariant_of-self : goal.invariant_of-self
invariant_of-self c =
    let day = day_is c.new.ensures c.changes.ensures.value c.deref.ensures.value c.deref-2.ensures.value
    c.deref-3.ensures.value in
    opened _ _ _ _ _ _ _ _ c.self.invariant c.args.change c.args.is c.test.new.broken
    (omega (arith, c.requires, ap (λ (t : TrialTimes). length t.problem.changes) c.self.view_is))
    (λ d. c.test.ensures d ∙ (λ i. slice_set c.self.inside.broken c.args.change
    (get_or (day i).open_yet c.args.change false && is_broken (day i).times (get_or (day i).changes c.args.change d))))
