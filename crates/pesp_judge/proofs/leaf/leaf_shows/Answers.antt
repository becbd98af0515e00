use Rattle.plan_num.proofs.Common.{◌≡◌, pos, arith, ints, rules, ap, ◌∙◌, length}
use Rattle.plan_num.proofs.Common.{length-map}
use Rattle.std.proofs.Common.{◌*ℤ◌}
use mir.Syntax.{w128}
use mir.Val.{SFits}
use Rattle.pesp_judge.specs.Weighted.{weighted_slack}
use Rattle.pesp_judge.specs.Cycles.{slacks_of}
use Rattle.pesp_judge.specs.Leaves.{products}
use Rattle.pesp_judge.proofs.Shown.{least_shown, scaled_slack}
use Rattle.pesp_judge.proofs.Timetabled.{all_spans}
use Rattle.pesp_judge.proofs.leaf.leaf_shows.Goals as goal

pub loop-row-init : goal.loop-row-init
loop-row-init c =
    let weighted = c.args.region.weighted.now in
    let full = c.refill.ensures in
    record {
      size = ap length full ∙ length-map weighted.activities
          (λ it. pos c.args.parts *ℤ pos it.weight);
      falls = λ times in_region.
          let whole : products c.refill.new.residual (slacks_of weighted times)
          ≡ pos c.args.parts *ℤ weighted_slack weighted times =
          ap (λ numbers. products numbers (slacks_of weighted times)) full
          ∙ scaled_slack (pos c.args.parts) weighted.period times weighted.activities in
          omega (arith, ints, whole);
    }

pub returns-in-Some-checked_add : goal.returns-in-Some-checked_add
returns-in-Some-checked_add c = λ times in_region.
    let weighted = c.args.region.weighted.now in
    let problem = c.least_of.ensures.problem in
    let residual = c.loop-row.residual in
    let sum = c.in-Some-least_of.ensures.sum in
    let shown = c.in-Some-checked_add.ensures in
    let least = least_shown weighted.period times residual weighted.activities
    (all_spans weighted problem times in_region.timetable) in
    let falls = c.loop-row.invariant.falls times in_region in
    let a : SFits w128 c.in-Some-least_of.least = search rules in
    let b : SFits w128 c.in-Some-checked_add.shown = search rules in
    omega (arith, ints, sum, shown, least, falls)
