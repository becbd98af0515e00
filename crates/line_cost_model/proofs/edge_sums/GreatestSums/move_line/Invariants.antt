-- The sums of the edges so far have moved.
use Rattle.line_cost_model.specs.RunningSums.{IsOfGreatest}
use Rattle.line_cost_model.proofs.EdgesMoved.{AreMovedUpTo}
use Rattle.line_cost_model.proofs.edge_sums.GreatestSums.move_line.Given as goal

abbrev pub invariant-loop-edge : goal.invariant-loop-edge
invariant-loop-edge l = record {
  moved : AreMovedUpTo l.edges l.edge-index l.before l.after l.fn.self.sums.items l.self.sums.items;
  sound : IsOfGreatest l.problem.edges l.self.sums.items l.self.under;
}
