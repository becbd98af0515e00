-- How many of the edges so far are below their minimal frequency.
use Rattle.plan_num.proofs.Common.{◌≡◌, ◌≤◌, sum_by, range_with_len}
use Rattle.line_cost_model.specs.RunningSums.{at_edge, under}
use Rattle.line_cost_model.proofs.edge_sums.under_count.Given as goal

abbrev pub invariant-loop-edge : goal.invariant-loop-edge
invariant-loop-edge l = record {
  count : l.count ≡ sum_by (at_edge under l.problem.edges l.sums) (range_with_len 0 l.edge);
  few : l.count ≤ l.edge;
}
