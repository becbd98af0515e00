use Rattle.plan_num.proofs.Common.{arith, ints, rules}
use Rattle.std.proofs.lemmas.Int.{to_z-of_z}
use mir.Syntax.{w128}
use mir.Val.{SFits}
use Rattle.pesp_judge.specs.Cycles.{along, count_in}
use Rattle.pesp_judge.proofs.Products.{grows}
use Rattle.pesp_judge.proofs.leaf.take_times.Goals as goal

pub returns : goal.returns
returns c = λ slacks same holds.
    let steps = c.args.inequality.steps.now in
    let amount : SFits w128 c.args.amount = c.ranges.amount in
    let a : SFits w128 c.args.inequality.right = search rules in
    let b : SFits w128 c.in_ok-checked_mul.field-0 = search rules in
    let product = simp to_z-of_z at c.in_ok-checked_mul.ensures in
    let falls = simp to_z-of_z at (c.in_ok-take_off.ensures slacks same) in
    let least = grows c.args.amount c.args.inequality.right
    (along (count_in c.args.inequality.weighing) slacks steps) c.requires.natural holds in
    omega (arith, ints, product, falls, least)
