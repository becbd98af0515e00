use Rattle.plan_num.proofs.Common.{◌∙◌, ap, map, position, w64, int_eq}
use Rattle.std.proofs.lemmas.Int.{to_z-of_z}
use Rattle.walks.proofs.network.Network.edge_index.Goals as goal

pub returns : goal.returns
returns c =
    rw (c.get_index_of.ensures.index, to_z-of_z w64 c.args.id c.ranges.id) (
    ap (position (int_eq c.args.id)) c.self.invariant.0
    ∙ ap (λ network. position (int_eq c.args.id) (map (λ edge. edge.id) network.edges))
    c.self.view_is)
