-- The problem has the edges so far, and no line.
use Rattle.plan_num.proofs.Common.{◌≡◌, [], take}
use Rattle.line_search.proofs.PushedEdges.{bounded}
use Rattle.line_search.proofs.given.problem_of_edges.Given as goal

abbrev pub invariant-loop-index : goal.invariant-loop-index
invariant-loop-index l =
    l.problem ≡ record { edges = take l.index (bounded l.network.edges l.loads); lines = [] }
