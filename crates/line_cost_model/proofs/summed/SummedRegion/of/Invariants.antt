-- The ranges of the lines so far are those of the region.
use Rattle.plan_num.proofs.Common.{◌≡◌, ℕ, ◌<◌, length}
use Rattle.line_cost_model.specs.Regions.{range_of}
use Rattle.line_cost_model.proofs.summed.SummedRegion.of.Given as goal

abbrev pub invariant-loop-line : goal.invariant-loop-line
invariant-loop-line l = record {
  problem : l.summed.problem ≡ l.problem;
  size : length l.summed.ranges ≡ length l.region;
  done : (line : ℕ) → line < l.line → range_of l.summed.ranges line ≡ range_of l.region line;
}
