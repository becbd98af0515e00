use Rattle.plan_num.proofs.Common.{◌≡◌, ◌<◌, ◌≤◌, ◌+◌, ◌*◌, ◌∙◌, length, ap, sym, subst, arith}
use Rattle.plan_num.proofs.Common.{List, set, IfSome, get_or_default}
use Rattle.line_cost_model.specs.declared.range.LineRange.{LineRange}
use Rattle.line_cost_model.specs.Regions.{RegionParts, range_of}
use Rattle.line_cost_model.specs.RunningSums.{AreSums}
use Rattle.line_cost_model.proofs.RunningSums.{least_cost_counts, least_cost_few, region_moved}
use Rattle.line_cost_model.proofs.summed.SummedRegion.set_range.Goals as goal

pub cost_moved-self-inside-requires-clause-counted :
    goal.cost_moved-self-inside-requires-clause-counted
cost_moved-self-inside-requires-clause-counted c =
    let r = c.self.inside in
    let there : c.args.line < length r.ranges.items =
    omega (arith, c.requires.there, ap (λ (r : RegionParts). length r.ranges) c.self.view_is) in
    let before : c.index-before.result.now ≡ range_of r.ranges.items c.args.line =
    c.index-before.ensures ∙ get_or_default r.ranges.items c.args.line _ _ there in
    subst (λ (range : LineRange). c.cost_of_line-cost.result * range.lo ≤ r.least_cost) (sym before)
    (least_cost_counts r.problem.now r.ranges.items r.sums r.least_cost c.args.line c.cost_of_line-cost.result
    c.self.invariant there c.cost_of_line-cost.ensures)

pub cost_moved-self-inside-requires-clause-few : goal.cost_moved-self-inside-requires-clause-few
cost_moved-self-inside-requires-clause-few c =
    let r = c.self.inside in
    least_cost_few r.problem.now r.ranges.items r.sums r.least_cost c.self.invariant

pub invariant_of-self : goal.invariant_of-self
invariant_of-self c =
    let r = c.self.inside in
    let there : c.args.line < length r.ranges.items =
    omega (arith, c.requires.there, ap (λ (r : RegionParts). length r.ranges) c.self.view_is) in
    let before : c.index-before.result.now ≡ range_of r.ranges.items c.args.line =
    c.index-before.ensures ∙ get_or_default r.ranges.items c.args.line _ _ there in
    let price = c.cost_of_line-cost.result in
    region_moved r.problem.now r.ranges.items r.sums c.move_sums.new.sums r.least_cost
    c.cost_moved-self-inside.result c.args.line c.args.lo c.args.hi price c.self.invariant there
    c.requires.in_order c.requires.few c.cost_of_line-cost.ensures
    (subst (λ (range : LineRange). c.cost_moved-self-inside.result + price * range.lo
    ≡ r.least_cost + price * c.args.lo) before c.cost_moved-self-inside.ensures)
    (subst (λ (ranges : List LineRange). IfSome c.move_sums.new.sums (AreSums r.problem.now
    (set ranges c.args.line (record { lo = c.args.lo; hi = c.args.hi })))) c.deref.ensures.value
    c.move_sums.ensures)
