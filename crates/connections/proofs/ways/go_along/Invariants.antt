-- The rest of the links makes of the ways so far what all links make of the first ones.
use Rattle.plan_num.proofs.Common.{◌≡◌, drop}
use Rattle.connections.specs.Ways.{ways_along}
use Rattle.connections.proofs.ways.go_along.Given as goal

abbrev pub invariant-loop-link : goal.invariant-loop-link
invariant-loop-link l =
    ways_along (drop l.link-index l.links) l.ways ≡ ways_along l.links l.initial.ways
