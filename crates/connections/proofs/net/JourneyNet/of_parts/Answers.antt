use Rattle.plan_num.proofs.Common.{arith, List, subst, IsPermutation}
use Rattle.connections.specs.declared.connection.Connection.{Connection}
use Rattle.connections.specs.Links.{links_of}
use Rattle.connections.specs.RankedNets.{parts_of}
use Rattle.connections.proofs.RankedParts.{parts_linked, parts_net, tails}
use Rattle.connections.proofs.net.JourneyNet.of_parts.Goals as goal

pub links_in_order-requires-clause-few_connections : goal.links_in_order-requires-clause-few_connections
links_in_order-requires-clause-few_connections c = grind arith

pub links_in_order-requires-clause-tails : goal.links_in_order-requires-clause-tails
links_in_order-requires-clause-tails c = grind (arith, tails)

pub invariant_of-result : goal.invariant_of-result
invariant_of-result c =
    let links = c.in_ok-links.links.items in
    parts_linked (parts_of c.args.events.items c.args.connections.items) c.args.ranks.now
    c.requires links
    (subst (λ (some : List Connection). IsPermutation (links_of c.args.ranks.now 0 some) links)
    c.deref.ensures.value c.in_ok-links.ensures.all)
    c.in_ok-links.ensures.in_order

pub returns-clause-net : goal.returns-clause-net
returns-clause-net c = grind (arith, parts_net)
