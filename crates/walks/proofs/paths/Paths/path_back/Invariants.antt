-- What was found stands behind the path to where it comes from.
use Rattle.plan_num.proofs.Common.{◌≡◌, ◌<◌, ◌-◌, ◌++◌, length, reverse}
use Rattle.walks.specs.Walks.{edge_length, least_sums}
use Rattle.walks.specs.Paths.{length_to, path_within, path}
use Rattle.walks.proofs.paths.Paths.path_back.Given as goal

abbrev pub invariant-loop-step : goal.invariant-loop-step
invariant-loop-step l =
    let size = length l.network.stops in
    record {
      here : l.at < size;
      found : path_within l.network.edges (length_to (least_sums l.network edge_length l.from))
          (size - l.step) l.from l.at ++ reverse l.back.items ≡ path l.network l.from l.to;
    }
