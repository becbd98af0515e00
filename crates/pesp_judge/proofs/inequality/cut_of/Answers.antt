use Rattle.plan_num.proofs.Common.{◌≡◌, ℕ, pos, rules, subst, sym}
use Rattle.std.proofs.Common.{◌*ℤ◌}
use Rattle.std.proofs.lemmas.Int.{to_z-of_z}
use mir.Syntax.{w128, w64}
use mir.Val.{SFits}
use Rattle.pesp_judge.specs.Cycles.{IsCycle, around, slacks_of}
use Rattle.pesp_judge.proofs.Cuts.{cut_holds}
use Rattle.pesp_judge.proofs.Timetabled.{steps_within, turns}
use Rattle.pesp_judge.proofs.inequality.cut_of.Goals as goal

pub returns-clause-holds : goal.returns-clause-holds
returns-clause-holds c = λ times timetable.
    let weighted = c.args.weighted.now in
    let problem = c.period-period.ensures.problem in
    let period = c.period-period.result in
    let steps = c.as_slice-steps.result.now in
    let slacks = slacks_of weighted times in
    let cycle : IsCycle weighted steps =
    subst (IsCycle weighted) (sym c.as_slice-steps.ensures.value) c.requires in
    let within = steps_within weighted problem times timetable steps cycle.steps_are in
    let whole = turns weighted problem times timetable steps cycle in
    let around_is : around slacks steps ≡ pos period *ℤ whole.0 =
    subst (λ (n : ℕ). around slacks steps ≡ pos n *ℤ whole.0) (sym c.period-period.ensures.value)
    whole.1 in
    let a : SFits w128 c.in_ok-cut_right.field-0 = search rules in
    let b : SFits w64 c.in_ok-turned.turned = search rules in
    let right = simp to_z-of_z at c.in_ok-cut_right.ensures in
    rw (to_z-of_z w128 c.in_ok-cut_right.field-0 a)
    (rw (to_z-of_z w64 c.in_ok-turned.turned b)
    (cut_holds period c.in_ok-turned.turned c.in_ok-cut_right.field-0 slacks steps
    c.period-period.ensures.some within whole.0 around_is c.in_ok-turned.ensures right))
