use Rattle.plan_num.proofs.Common.{◌<◌, length, ap, arith, ext_get_or, length-map, length-set}
use Rattle.line_cost_model.specs.Regions.{RegionParts}
use Rattle.line_cost_model.proofs.RunningSums.{range_taken}
use Rattle.line_cost_model.proofs.summed.SummedRegion.of.Goals as goal

pub loop-line-init : goal.loop-line-init
loop-line-init c = record {
  problem = ap (λ (parts : RegionParts). parts.problem) c.in_ok-summed.ensures.root;
  size = grind (arith, length-map);
  done = λ line h. absurd (omega (arith, h));
}

pub set_range-requires-clause-there : goal.set_range-requires-clause-there
set_range-requires-clause-there c =
    omega (arith, c.loop-line-test.true, c.line_count-line-end.ensures.count, c.requires, c.loop-line.invariant.size)

pub set_range-requires-clause-in_order : goal.set_range-requires-clause-in_order
set_range-requires-clause-in_order c =
    let there : c.loop-line.line < length c.args.region.now = grind arith in grind
    arith

pub set_range-requires-clause-few : goal.set_range-requires-clause-few
set_range-requires-clause-few c =
    let there : c.loop-line.line < length c.args.region.now = grind arith in grind
    arith

pub loop-line-preserved : goal.loop-line-preserved
loop-line-preserved c =
    let ranges = ap (λ (parts : RegionParts). parts.ranges) c.set_range.ensures in grind (
      arith,
      length-set,
      range_taken,
    )

pub returns : goal.returns
returns c =
    let all = ext_get_or (record { lo = 0; hi = 0 }) c.loop-line.summed.ranges c.args.region.now
    c.loop-line.invariant.size (λ line h. c.loop-line.invariant.done line
    (omega (
      arith,
      h,
      c.loop-line-test.false,
      c.line_count-line-end.ensures.count,
      c.requires,
      c.loop-line.invariant.size,
    ))) in
    λ i. record { problem = c.loop-line.invariant.problem i; ranges = all i }
