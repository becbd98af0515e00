use Rattle.plan_num.proofs.Common.{◌≡◌, List, [], length, subst, ap, arith, values_of}
use Rattle.plan_num.proofs.Common.{get_or_from_slice_get}
use Rattle.walks.specs.declared.edge.Edge.{Edge}
use Rattle.walks.specs.Networks.{NetworkParts}
use Rattle.walks.specs.StopEdges.{AreEdgesAt}
use Rattle.walks.proofs.network.Network.edges_at.Goals as goal

pub returns : goal.returns
returns c =
    let size : length c.self.inside.stops.keys ≡ length c.args.self.now.stops =
    ap (λ (network : NetworkParts). length network.stops) c.self.view_is in
    subst (λ (edges : List Edge). AreEdgesAt edges c.args.stop c.at.result.now)
    (ap (λ (network : NetworkParts). network.edges) c.self.view_is)
    (subst (AreEdgesAt (values_of c.self.inside.edges.entries) c.args.stop)
    (get_or_from_slice_get c.self.inside.at_stops c.args.stop c.at.result.now [] c.at.ensures)
    (c.self.invariant.2.at c.args.stop (omega (arith, size, c.requires))))
