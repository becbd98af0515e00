use Rattle.plan_num.proofs.Common.{◌≡◌, pos, ◌-ℤ◌, ◌<ℤ◌, ◌∙◌, ap, arith, ints, rules}
use Rattle.std.proofs.Common.{◌*ℤ◌}
use Rattle.std.proofs.lemmas.Int.{to_z-of_z}
use mir.Syntax.{w128, w64}
use mir.Val.{SFits}
use Rattle.pesp_judge.proofs.Shown.{claim_shown}
use Rattle.pesp_judge.proofs.bound.is_enough.Goals as goal

pub returns : goal.returns
returns c = λ enough cost most.
    let claim_fits : SFits w64 c.args.claim = c.ranges.claim in
    let shown_fits : SFits w128 c.args.shown = c.ranges.shown in
    let a : SFits w128 c.from.result = search rules in
    let b : SFits w128 c.from-2.result = search rules in
    let d : SFits w128 c.in_ok-before.before = search rules in
    let e : SFits w128 c.in_ok-less.less = search rules in
    let claim = simp to_z-of_z at c.from.ensures in
    let before = simp to_z-of_z at c.in_ok-before.ensures in
    let less = simp to_z-of_z at c.in_ok-less.ensures in
    let product : c.in_ok-less.less ≡ (c.args.claim -ℤ pos 1) *ℤ pos c.args.parts =
    less.1 ∙ ap (λ z. z *ℤ c.from-2.result) (before.1 ∙ ap (λ z. z -ℤ pos 1) claim)
    ∙ ap (λ z. (c.args.claim -ℤ pos 1) *ℤ z) c.from-2.ensures in
    let more : ((c.args.claim -ℤ pos 1) *ℤ pos c.args.parts) <ℤ c.args.shown =
    omega (arith, ints, enough, product) in
    claim_shown c.args.claim cost c.args.shown (pos c.args.parts) (omega (arith, ints)) more most
