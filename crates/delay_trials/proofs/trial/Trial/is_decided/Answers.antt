use Rattle.plan_num.proofs.Common.{◌≡◌, ◌∙◌, ap, arith, length, not, subst, reverse}
use Rattle.delay_trials.specs.OnTrial.{decided_in}
use Rattle.delay_trials.specs.Trials.{TrialParts, is_decided}
use Rattle.delay_trials.proofs.TrialFacts.{not_twice, open_flag}
use Rattle.delay_trials.proofs.trial.Trial.is_decided.Goals as goal

pub returns : goal.returns
returns c =
    let all = c.self.inside.times in let decided = decided_in (reverse c.self.inside.taken.items) in
    subst (λ (t : TrialParts). not c.is_open.result ≡ is_decided t.decided c.args.change) c.self.view_is
    (not_twice c.is_open.result (is_decided decided c.args.change)
    (c.is_open.ensures ∙ open_flag all.problem decided c.self.inside.kept.items all.open_yet all.times
    c.self.invariant.trial c.args.change
    (omega (arith, c.requires, ap (λ (t : TrialParts). length t.problem.changes) c.self.view_is))))
