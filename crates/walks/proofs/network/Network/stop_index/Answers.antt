use Rattle.plan_num.proofs.Common.{ap, position, w64, int_eq}
use Rattle.std.proofs.lemmas.Int.{to_z-of_z}
use Rattle.walks.proofs.network.Network.stop_index.Goals as goal

pub returns : goal.returns
returns c = rw (c.get_index_of.ensures.index, to_z-of_z w64 c.args.id c.ranges.id)
    (ap (λ network. position (int_eq c.args.id) network.stops) c.self.view_is)
