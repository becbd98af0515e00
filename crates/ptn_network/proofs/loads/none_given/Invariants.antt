-- No load is given of the edges so far.
use Rattle.plan_num.proofs.Common.{◌≡◌, [], map, take}
use Rattle.ptn_network.specs.Loads.{given_for}
use Rattle.ptn_network.proofs.loads.none_given.Given as goal

abbrev pub invariant-loop-edge : goal.invariant-loop-edge
invariant-loop-edge l = l.given.items ≡ map (given_for []) (take l._edge l.network.edges)
