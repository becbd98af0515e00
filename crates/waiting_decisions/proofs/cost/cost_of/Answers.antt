use Rattle.plan_num.proofs.Common.{◌∙◌, ◌≤ℤ◌, pos, sym, subst}
use Rattle.std.proofs.lemmas.Int.{to_z-of_z}
use mir.Syntax.{w128}
use Rattle.propagation.proofs.Common.{chosen_changes}
use Rattle.delay_trials.proofs.TrialDelay.{delay_least, delay_most}
use Rattle.waiting_decisions.proofs.cost.cost_of.Goals as goal

pub with_penalties-requires-clause-least : goal.with_penalties-requires-clause-least
with_penalties-requires-clause-least c =
    let problem = c.args.problem.now in
    subst (λ z. pos 0 ≤ℤ z)
    (sym (to_z-of_z w128 c.delay.result (record { sfits = c.delay.type_inv }) ∙ c.delay.ensures))
    (delay_least problem (chosen_changes problem c.args.kept.now) c.in_ok-times.times
    c.in_ok-times.ensures.least c.in_ok-times.ensures.small c.least.ensures.few c.least.ensures.late)

pub with_penalties-requires-clause-most : goal.with_penalties-requires-clause-most
with_penalties-requires-clause-most c =
    let problem = c.args.problem.now in
    subst (λ z. z ≤ℤ pos 60000000000000000)
    (sym (to_z-of_z w128 c.delay.result (record { sfits = c.delay.type_inv }) ∙ c.delay.ensures))
    (delay_most problem (chosen_changes problem c.args.kept.now) c.in_ok-times.times
    c.in_ok-times.ensures.least c.in_ok-times.ensures.small c.least.ensures.few c.least.ensures.late)
