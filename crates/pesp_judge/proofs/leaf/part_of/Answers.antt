use Rattle.plan_num.proofs.Common.{◌≡◌, ◌≤ℤ◌, ◌-ℤ◌, ℤ, pos, arith, ints, ap, sym, ◌∙◌}
use Rattle.plan_num.proofs.Common.{rules}
use Rattle.std.proofs.Common.{◌*ℤ◌}
use Rattle.std.proofs.lemmas.Int.{to_z-of_z}
use mir.Syntax.{w128, w64}
use mir.Val.{SFits}
use Rattle.pesp_judge.specs.Cycles.{around, lower_sum}
use Rattle.pesp_judge.proofs.Parts.{at_least, at_most, part_at_least, part_at_most}
use Rattle.pesp_judge.proofs.leaf.part_of.Goals as goal

pub returns-in_ok-checked_sub-clause-holds : goal.returns-in_ok-checked_sub-clause-holds
returns-in_ok-checked_sub-clause-holds c = λ cycles slacks steps lies.
    let own = c.as_slice-steps.result.now in
    let least : ℤ = pos c.args.weighted.now.period *ℤ c.args.split.periods in
    let here : least ≤ℤ around slacks own =
    part_at_least c.args.weighted.now.period cycles slacks c.args.split own
    (steps ∙ sym c.as_slice-steps.ensures.value) c.if-split.true lies in
    let a : SFits w64 c.args.split.periods = search rules in
    let b : SFits w128 c.from.result = search rules in
    let d : SFits w128 c.from-2.result = search rules in
    let e : SFits w128 c.in_ok-taken.taken = search rules in
    let f : SFits w128 c.in_ok-lower.lower = search rules in
    let g : SFits w128 c.in_ok-checked_sub.field-0 = search rules in
    let h = simp to_z-of_z at c.in_ok-taken.ensures in
    let i = simp to_z-of_z at c.from-2.ensures in
    let k = simp to_z-of_z at c.in_ok-checked_sub.ensures in
    let product : c.in_ok-taken.taken ≡ least =
    h.1 ∙ ap (λ z. z *ℤ c.from-2.result) (c.from.ensures ∙ ap pos c.period.ensures.value)
    ∙ ap (λ z. pos c.args.weighted.now.period *ℤ z) i in
    let right : c.in_ok-checked_sub.field-0 ≡ least -ℤ lower_sum own =
    omega (arith, ints, k, product, c.in_ok-lower.ensures) in
    rw (to_z-of_z w128 c.in_ok-checked_sub.field-0 g) (at_least slacks own least _ right here)

pub returns-in_ok-checked_sub-2-clause-holds : goal.returns-in_ok-checked_sub-2-clause-holds
returns-in_ok-checked_sub-2-clause-holds c = λ cycles slacks steps lies.
    let own = c.as_slice-steps.result.now in
    let most : ℤ = pos c.args.weighted.now.period *ℤ c.args.split.periods in
    let here : around slacks own ≤ℤ most =
    part_at_most c.args.weighted.now.period cycles slacks c.args.split own
    (steps ∙ sym c.as_slice-steps.ensures.value) c.if-split.false lies in
    let a : SFits w64 c.args.split.periods = search rules in
    let b : SFits w128 c.from.result = search rules in
    let d : SFits w128 c.from-2.result = search rules in
    let e : SFits w128 c.in_ok-taken.taken = search rules in
    let f : SFits w128 c.in_ok-lower.lower = search rules in
    let g : SFits w128 c.in_ok-checked_sub-2.field-0 = search rules in
    let h = simp to_z-of_z at c.in_ok-taken.ensures in
    let i = simp to_z-of_z at c.from-2.ensures in
    let k = simp to_z-of_z at c.in_ok-checked_sub-2.ensures in
    let product : c.in_ok-taken.taken ≡ most =
    h.1 ∙ ap (λ z. z *ℤ c.from-2.result) (c.from.ensures ∙ ap pos c.period.ensures.value)
    ∙ ap (λ z. pos c.args.weighted.now.period *ℤ z) i in
    let right : c.in_ok-checked_sub-2.field-0 ≡ lower_sum own -ℤ most =
    omega (arith, ints, k, product, c.in_ok-lower.ensures) in
    rw (to_z-of_z w128 c.in_ok-checked_sub-2.field-0 g) (at_most slacks own most _ right here)
