use Rattle.plan_num.proofs.Common.{◌∙◌, ap, arith, length, get_or_default}
use Rattle.propagation.proofs.Common.{asked, time_at}
use Rattle.delay_trials.specs.OnTrial.{TrialTimes}
use Rattle.delay_trials.proofs.Settling.{pushed_later}
use Rattle.delay_trials.proofs.on_trial.TimesOnTrial.push.Goals as goal

pub returns-in_ok-note-clause-ok : goal.returns-in_ok-note-clause-ok
returns-in_ok-note-clause-ok c =
    pushed_later c.args.step c.args.self.now c.note.new.self c.set_time.new.self c.wait_at.new.self _ _
    c.in_ok-note.ensures.ok c.set_time.ensures c.wait_at.ensures.same c.wait_at.ensures.waits
    (c.index-before.ensures
    ∙ get_or_default c.self.inside.times.items c.args.step.to c.index-before.result.now 0
    (omega (
      arith,
      c.requires.joins.1,
      c.self.invariant.each,
      ap (λ (t : TrialTimes). length t.problem.events)
          c.self.view_is,
    ))
    ∙ ap (λ (t : TrialTimes). time_at t.times c.args.step.to) c.self.view_is)
    (c.asked-asked.ensures ∙ ap (λ times. asked times c.args.step) c.deref.ensures.value
    ∙ ap (λ (t : TrialTimes). asked t.times c.args.step) c.self.view_is)
    c.if-before-asked.true
