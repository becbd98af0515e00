-- The sums of the edges so far.
use Rattle.plan_num.proofs.Common.{◌≡◌, ℕ, ◌<◌, length, get_or}
use Rattle.line_cost_model.specs.Concepts.{frequency_on}
use Rattle.line_cost_model.specs.Regions.{greatest_in}
use Rattle.line_cost_model.proofs.running.greatest_sums.Given as goal

abbrev pub invariant-loop-edge : goal.invariant-loop-edge
invariant-loop-edge l = record {
  size : length l.sums.items ≡ l.edge;
  told : (edge : ℕ) → edge < l.edge
      → get_or l.sums.items edge 0 ≡ frequency_on l.problem.lines (greatest_in l.ranges) edge;
}
