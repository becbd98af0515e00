-- The root waits, and the trips so far.
use Rattle.plan_num.proofs.Common.{◌≡◌, ◌∷◌, map, range_with_len}
use Rattle.canonical_potentials.specs.Walks.{root_waits, trip_waits}
use Rattle.canonical_potentials.proofs.walk.all_nodes.Given as goal

abbrev pub invariant-loop-trip : goal.invariant-loop-trip
invariant-loop-trip l = l.nodes.items ≡ root_waits ∷ map (trip_waits l.valid.u) (range_with_len 0 l.trip)
