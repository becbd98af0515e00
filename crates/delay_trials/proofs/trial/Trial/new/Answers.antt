use Rattle.plan_num.proofs.Common.{◌∙◌, ap, false, replicate, subst, sym, reverse}
use Rattle.delay_trials.specs.OnTrial.{IsTaken}
use Rattle.delay_trials.proofs.DecisionsTakenBack.{none_taken}
use Rattle.delay_trials.proofs.trial.Trial.new.Goals as goal

pub invariant_of-result : goal.invariant_of-result
invariant_of-result c =
    subst (λ all. IsTaken c.in_ok-new.field-0 (reverse all) c.in_ok-vec.field-0.items) (sym c.new-2.ensures.items)
    (none_taken c.args.problem.now c.in_ok-new.field-0 c.in_ok-vec.field-0.items
    c.in_ok-new.ensures.starts
    (c.in_ok-vec.ensures.items_if_clones_equal (λ y is. is) ∙ ap (λ n. replicate n false) c.change_count.ensures.count))
