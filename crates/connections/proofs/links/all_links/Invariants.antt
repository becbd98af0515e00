-- The links so far and those of the connections that are left are all of them.
use Rattle.plan_num.proofs.Common.{◌≡◌, ◌++◌, drop}
use Rattle.connections.specs.Links.{links_of}
use Rattle.connections.proofs.links.all_links.Given as goal

abbrev pub invariant-loop-index : goal.invariant-loop-index
invariant-loop-index l =
    l.links.items ++ links_of l.ranks l.index (drop l.index l.connections)
    ≡ links_of l.ranks 0 l.connections
