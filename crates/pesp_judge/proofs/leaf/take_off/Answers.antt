use Rattle.plan_num.proofs.Common.{◌≡◌, ◌<◌, ◌∙◌, sym, length, get_or, take, refl, ap}
use Rattle.plan_num.proofs.Common.{length-set, rules, subst, pos, to_z, of_z, ◌-ℤ◌, ◌+ℤ◌, set}
use Rattle.std.proofs.Common.{◌*ℤ◌}
use Rattle.std.proofs.lemmas.Int.{to_z-of_z}
use mir.Syntax.{w128}
use mir.Val.{SFits}
use Rattle.pesp_judge.specs.Cycles.{along, count_in}
use Rattle.pesp_judge.specs.Leaves.{products}
use Rattle.pesp_judge.proofs.Steps.{along_more, no_step}
use Rattle.pesp_judge.proofs.Sums.{falls_more, off_none}
use Rattle.pesp_judge.proofs.leaf.take_off.Goals as goal

pub loop-step-init : goal.loop-step-init
unfolding along
loop-step-init c =
    record {
      size = refl;
      falls = λ slacks same.
          off_none (products c.args.residual.now slacks) (to_z w128 (of_z w128 c.args.amount))
          (pos 0) refl;
    }

pub loop-step-preserved : goal.loop-step-preserved
loop-step-preserved c =
    let steps = c.args.inequality.steps.now in
    let weighing = c.args.inequality.weighing in
    let index = c.loop-step.step-index in
    let some : index < length steps = c.loop-step-test.true in
    let step = get_or steps index no_step in
    let old = c.loop-step.residual in
    let size = c.loop-step.invariant.size in
    let within : step.place < length old =
    subst (λ n. step.place < n) (sym size) (c.requires index no_step some) in
    let amount = to_z w128 (of_z w128 c.args.amount) in
    let amount_is : amount ≡ c.args.amount = to_z-of_z w128 c.args.amount c.ranges.amount in
    let taken : to_z w128 (of_z w128 c.in_ok-taken.taken) ≡ count_in weighing step *ℤ amount =
    let counted : SFits w128 (count_in weighing step) =
    subst (SFits w128) c.count.ensures (search rules) in
    let taken_fits : SFits w128 c.in_ok-taken.taken = search rules in
    to_z-of_z w128 c.in_ok-taken.taken taken_fits ∙ c.in_ok-taken.ensures.1
    ∙ ap (λ z. z *ℤ amount) (ap (λ z. to_z w128 (of_z w128 z)) c.count.ensures
    ∙ to_z-of_z w128 (count_in weighing step) counted) in
    let set_is = c.in_ok-lower.ensures in
    record {
      size = ap length set_is ∙ length-set _ _ _ ∙ size;
      falls = λ slacks same.
          let more = along_more steps index some (count_in weighing) slacks in
          let falls = falls_more old slacks step.place (count_in weighing step) amount
          (along (count_in weighing) slacks (take index steps))
          (products c.args.residual.now slacks) within (same ∙ sym size)
          (c.loop-step.invariant.falls slacks same) in
          rw (more) (ap (λ numbers. products numbers slacks) set_is ∙ subst (λ z. products (set old step.place (get_or old step.place (pos 0) -ℤ z)) slacks ≡ products c.args.residual.now slacks -ℤ amount *ℤ (along (count_in weighing) slacks (take index steps) +ℤ count_in weighing step *ℤ get_or slacks step.place (pos 0))) (sym taken) falls);
    }
