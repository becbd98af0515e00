use Rattle.plan_num.proofs.Common.{◌≡◌, ◌∙◌, ap, subst}
use Rattle.propagation.proofs.Common.{forward_rank}
use Rattle.delay_trials.specs.OnTrial.{TrialTimes, WaitBy}
use Rattle.delay_trials.proofs.on_trial.TimesOnTrial.wait_at.Goals as goal

pub returns-clause-waits : goal.returns-clause-waits
returns-clause-waits c =
    subst (λ (t : TrialTimes). WaitBy (λ link. link.rank ≡ forward_rank t.problem.events c.args.event) t.links t.waiting
    c.wait_behind.new.waiting)
    c.self.view_is
    (subst (λ rank. WaitBy (λ link. link.rank ≡ rank) c.self.inside.links.now c.self.inside.waiting
    c.wait_behind.new.waiting)
    (c.forward_rank-rank.ensures ∙ ap (λ events. forward_rank events c.args.event) c.events.ensures.value)
    c.wait_behind.ensures)
