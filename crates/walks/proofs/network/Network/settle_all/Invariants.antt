-- The labels are partway, and each round settles one of the stops that are left.
use Rattle.plan_num.proofs.Common.{length}
use Rattle.walks.specs.Labels.{weight_of}
use Rattle.walks.proofs.Partway.{ArePartway, left_count}
use Rattle.walks.proofs.network.Network.settle_all.Given as goal

abbrev pub invariant-loop-stop : goal.invariant-loop-stop
invariant-loop-stop l = ArePartway l.self.edges (weight_of l.weight) l.from
    (length l.self.stops) l.labels

abbrev pub decreases-loop-stop : goal.decreases-loop-stop
decreases-loop-stop l = left_count l.labels
