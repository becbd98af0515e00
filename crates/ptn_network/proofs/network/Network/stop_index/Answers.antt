use Rattle.plan_num.proofs.Common.{refl, w64}
use Rattle.std.proofs.lemmas.Int.{to_z-of_z}
use Rattle.ptn_network.proofs.network.Network.stop_index.Goals as goal

pub returns : goal.returns
returns c =
    rw (c.stop_index.ensures, to_z-of_z w64 c.args.id c.ranges.id, c.self.view_is) refl
