use Rattle.plan_num.proofs.Common.{rules, arith, ints}
use Rattle.std.proofs.lemmas.Int.{to_z-of_z}
use mir.Syntax.{w128, w64}
use mir.Val.{SFits}
use Rattle.pesp_judge.proofs.inequality.cut_right.Goals as goal

pub returns : goal.returns
returns c =
    let turned : SFits w64 c.args.turned = c.ranges.turned in
    let a : SFits w128 c.in_ok-own.own = search rules in
    let b : SFits w128 c.in_ok-flipped.flipped = search rules in
    let d : SFits w128 c.in_ok-checked_add.field-0 = search rules in
    let own = simp to_z-of_z at c.in_ok-own.ensures in
    let flipped = simp to_z-of_z at c.in_ok-flipped.ensures in
    let sum = simp to_z-of_z at c.in_ok-checked_add.ensures in
    omega (arith, ints, own, flipped, sum)
