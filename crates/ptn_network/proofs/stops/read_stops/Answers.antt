use Rattle.plan_num.proofs.Common.{ap, ◌∙◌}
use Rattle.ptn_network.specs.Networks.{stops_of}
use Rattle.walks.proofs.Common.{rising, sorted_ids}
use Rattle.ptn_network.proofs.stops.read_stops.Goals as goal

pub returns : goal.returns
unfolding stops_of
returns c =
    let read = c.in_ok-stops.ensures in
    let sorted = c.in_ok-sort.ensures in (
      read.0,
      sorted_ids c.sort.new.self.keys c.in_ok-stops.stops.keys sorted.sorted sorted.unique
          sorted.reordered.2 ∙ ap rising read.1,
    )
