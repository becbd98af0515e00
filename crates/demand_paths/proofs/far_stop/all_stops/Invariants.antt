-- The stops so far, with their distances.
use Rattle.plan_num.proofs.Common.{◌≡◌, map, range_with_len}
use Rattle.demand_paths.specs.Wanted.{far_stop}
use Rattle.demand_paths.proofs.far_stop.all_stops.Given as goal

abbrev pub invariant-loop-stop : goal.invariant-loop-stop
invariant-loop-stop l =
    l.stops.items ≡ map (far_stop l.network l.from) (range_with_len 0 l.stop)
