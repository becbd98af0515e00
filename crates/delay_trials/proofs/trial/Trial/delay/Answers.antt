use Rattle.plan_num.proofs.Common.{arith, ◌∙◌, ◌≤◌, ◌≤ℤ◌, length, pos, sym, subst, reverse}
use Rattle.std.proofs.lemmas.Int.{to_z-of_z}
use mir.Syntax.{w128}
use Rattle.delay_trials.specs.OnTrial.{decided_in}
use Rattle.propagation.proofs.Common.{changes_few}
use Rattle.delay_trials.specs.Trials.{TrialParts}
use Rattle.delay_trials.proofs.TrialDelay.{delay_least, delay_most}
use Rattle.delay_trials.proofs.TrialFacts.{trial_least}
use Rattle.delay_trials.proofs.trial.Trial.delay.Goals as goal

pub returns-clause-least : goal.returns-clause-least
returns-clause-least c =
    let all = c.self.inside.times in let linked = c.self.invariant.linked in let trial = c.self.invariant.trial in
    let least = trial_least all.problem linked.forward
    (decided_in (reverse c.self.inside.taken.items)) all.times trial.told in
    subst (λ z. pos 0 ≤ℤ z) (sym (to_z-of_z w128 c.delay.result (record { sfits = c.delay.type_inv })
    ∙ c.delay.ensures))
    (delay_least all.problem _ all.times least trial.small linked.few linked.late)

pub returns-clause-most : goal.returns-clause-most
returns-clause-most c =
    let all = c.self.inside.times in let linked = c.self.invariant.linked in let trial = c.self.invariant.trial in
    let least = trial_least all.problem linked.forward
    (decided_in (reverse c.self.inside.taken.items)) all.times trial.told in
    subst (λ z. z ≤ℤ pos 60000000000000000) (sym (to_z-of_z w128 c.delay.result (record { sfits = c.delay.type_inv })
    ∙ c.delay.ensures))
    (delay_most all.problem _ all.times least trial.small linked.few linked.late)

pub returns-clause-few : goal.returns-clause-few
returns-clause-few c =
    subst (λ (t : TrialParts). length t.problem.changes ≤ 502000) c.self.view_is
    (changes_few _ _ c.self.invariant.linked)

pub returns-clause-forward : goal.returns-clause-forward
returns-clause-forward c = grind arith
