use Rattle.plan_num.proofs.Common.{◌≡◌, All, length, sym, subst, rules, values_of}
use Rattle.walks.specs.Networks.{IsEdge}
use Rattle.walks.specs.StopEdges.{AreStopEdges}
use Rattle.walks.proofs.network.Network.new.Goals as goal

pub new-requires : goal.new-requires
new-requires c =
    let size : c.len.result ≡ length c.args.stops.keys = search rules in
    subst (λ n. All (IsEdge n) (values_of c.args.edges.entries)) (sym size)
    c.requires.network.edges

pub invariant_of-result : goal.invariant_of-result
invariant_of-result c =
    let size : c.len.result ≡ length c.args.stops.keys = search rules in (
      c.requires.keyed,
      c.requires.network,
      subst (λ n. AreStopEdges n (values_of c.args.edges.entries) c.in_ok-at_stops.at_stops)
          size c.in_ok-at_stops.ensures,
    )
