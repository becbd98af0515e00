use Rattle.plan_num.proofs.Common.{◌∙◌, arith, subst}
use Rattle.std.proofs.lemmas.Int.{to_z-of_z}
use mir.Syntax.{w128}
use Rattle.propagation.proofs.Common.{delay_at}
use Rattle.delay_trials.specs.OpenChanges.{AreAllTested, OpenParts}
use Rattle.delay_trials.proofs.OnTrialFacts.{day_is, renewed}
use Rattle.delay_trials.proofs.on_trial.TimesOnTrial.renew.Goals as goal

pub invariant_of-self : goal.invariant_of-self
invariant_of-self c =
    let day = day_is c.new.ensures c.changes.ensures.value c.deref-2.ensures.value c.deref-3.ensures.value
    c.deref-4.ensures.value in
    renewed _ _ _ _ _ _ _ _ c.self.invariant c.put_least_times.new.times.items _ c.test_all.new.broken
    c.put_least_times.ensures.least.feasible.each
    (λ k d inside. let small = c.put_least_times.ensures.small k d inside in omega (arith, small))
    (to_z-of_z w128 c.delay_at-self-inside.result (record { sfits = c.delay_at-self-inside.type_inv })
    ∙ c.delay_at-self-inside.ensures
    ∙ (λ i. delay_at (c.events.ensures.value i) (c.deref.ensures.value i)))
    (subst (λ (day : OpenParts). AreAllTested day c.test_all.new.broken) day c.test_all.ensures.tested)
    c.test_all.ensures.size
    c.forget_limits.new.until.items c.forget_limits.ensures
