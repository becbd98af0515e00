-- The stops so far are those of the trips so far.
use Rattle.plan_num.proofs.Common.{◌≡◌, ◌<◌, map, take, length, All}
use Rattle.vehicle_model.specs.Trips.{start_stop, end_stop}
use Rattle.vehicle_model.proofs.dead_times.DeadTimes.new.Given as goal

abbrev pub invariant-loop-trip : goal.invariant-loop-trip
invariant-loop-trip l = record {
  starts : l.starts.items ≡ map (start_stop l.network) (take l.trip-index l.trips);
  ends : l.ends.items ≡ map (end_stop l.network) (take l.trip-index l.trips);
  starts_within : All (λ stop. stop < length l.network.stops) l.starts.items;
  ends_within : All (λ stop. stop < length l.network.stops) l.ends.items;
}
