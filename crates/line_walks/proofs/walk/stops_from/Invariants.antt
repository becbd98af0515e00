-- The stops so far and the walk over the edges that are left make the whole walk.
use Rattle.plan_num.proofs.Common.{◌≡◌, ◌++◌, drop, option_map}
use Rattle.line_walks.specs.Pools.{walk_from}
use Rattle.line_walks.proofs.walk.stops_from.Given as goal

abbrev pub invariant-loop-edge : goal.invariant-loop-edge
invariant-loop-edge l = option_map (λ more. l.stops.items ++ more)
    (walk_from l.end (drop l.edge-index l.edges)) ≡ walk_from l.start l.edges
