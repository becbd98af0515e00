-- The problem has all edges, and the lines so far.
use Rattle.plan_num.proofs.Common.{◌≡◌, take}
use Rattle.line_search.proofs.PushedEdges.{bounded}
use Rattle.line_search.proofs.PushedLines.{costed}
use Rattle.line_search.proofs.given.whole_problem.Given as goal

abbrev pub invariant-loop-line : goal.invariant-loop-line
invariant-loop-line l =
    l.problem ≡ record {
      edges = bounded l.network.edges l.loads;
      lines = take l.line (costed l.pool l.costs);
    }
