-- The walk has gone on over the edges so far.
use Rattle.plan_num.proofs.Common.{◌≡◌, map, take, fold}
use Rattle.walks.specs.Labels.{weight_of, reach_over}
use Rattle.walks.proofs.Settling.{edge_of_index}
use Rattle.walks.proofs.network.Network.go_on.Given as goal

abbrev pub invariant-loop-index : goal.invariant-loop-index
invariant-loop-index l =
    l.labels ≡ fold (reach_over (weight_of l.weight) l.stop l.sum) l.initial.labels
    (map (edge_of_index l.self.edges) (take l.index-index l.index-items))
