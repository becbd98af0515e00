use Rattle.plan_num.proofs.Common.{◌≡◌, ◌<◌, length, refl, ap, sym, ◌∙◌, arith, ints, subst, get_or, pos, take, rules, to_z}
use Rattle.std.proofs.lemmas.Int.{to_z-of_z}
use mir.Syntax.{w128}
use mir.Val.{SFits}
use Rattle.pesp_judge.specs.Leaves.{least_of}
use Rattle.pesp_judge.proofs.Sums.{least_more, least_whole}
use Rattle.pesp_judge.proofs.leaf.least_of.Goals as goal

pub loop-index-init : goal.loop-index-init
unfolding least_of
loop-index-init c = refl

pub loop-index-preserved : goal.loop-index-preserved
loop-index-preserved c =
    let xs = c.activities-it-items.result.now in
    let same : length c.args.residual.now ≡ length xs =
    c.requires ∙ sym (ap length c.activities-it-items.ensures.all) in
    let more = least_more c.period-period.result c.args.residual.now xs c.loop-index.index
    (subst (λ n. c.loop-index.index < n) (sym same) c.loop-index-test.true) same in
    let number = get_or c.args.residual.now c.loop-index.index (pos 0) in
    let fits : SFits w128 number = search rules in
    let part = simp to_z-of_z at c.in_ok-least_part.ensures in
    let before : to_z w128 c.loop-index.sum-bits ≡ least_of c.period-period.result
    (take c.loop-index.index c.args.residual.now) (take c.loop-index.index xs) =
    c.loop-index.invariant in
    rw (more) (omega (arith, ints, part, c.in_ok-sum.ensures, before))

pub returns-clause-sum : goal.returns-clause-sum
returns-clause-sum c =
    let all = c.activities-it-items.ensures.all in
    let same : length c.args.residual.now ≡ length c.activities-it-items.result.now =
    c.requires ∙ sym (ap length all) in
    least_whole c.period-period.result c.args.weighted.now.period c.args.residual.now
    c.activities-it-items.result.now c.args.weighted.now.activities c.loop-index.index _
    c.period-period.ensures.value all same c.loop-index-test.false c.loop-index.invariant
