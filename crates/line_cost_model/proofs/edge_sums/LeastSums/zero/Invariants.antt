-- The edges so far are marked where drives are missing.
use Rattle.plan_num.proofs.Common.{◌≡◌, ℕ, ◌<◌, false, nat_lt, length, get_or}
use Rattle.line_cost_model.specs.RunningSums.{no_bounds}
use Rattle.line_cost_model.proofs.edge_sums.LeastSums.zero.Given as goal

abbrev pub invariant-loop-edge : goal.invariant-loop-edge
invariant-loop-edge l = record {
  marks : length l.short ≡ length l.problem.edges;
  told : (edge : ℕ) → edge < l.edge
      → get_or l.short edge false ≡ nat_lt 0 (get_or l.problem.edges edge no_bounds).least;
}
