use Rattle.plan_num.proofs.Common.{◌-◌, length, ap, ◌∙◌, arith}
use Rattle.plan_search.specs.Trees.{PlanParts}
use Rattle.plan_search.proofs.TakenIn.{taken_step}
use Rattle.plan_search.proofs.cheapest.take_all.Goals as goal

pub loop-step-preserved : goal.loop-step-preserved
loop-step-preserved c =
    let count = c.len-count.ensures.count ∙ ap (λ (t : PlanParts). length t.links) c.tight.view_is in
    taken_step c.args.tight c.loop-step.tight c.in_ok-tight.tight c.loop-step.step
    c.trip_of.result c.loop-step.invariant c.in_ok-tight.ensures
    (λ past. c.trip_of.ensures.again (omega (arith, past, count)) ∙ ap (λ n. c.loop-step.step - n) count)
