use Rattle.plan_num.proofs.Common.{length}
use Rattle.vehicle_model.specs.Schedules.{no_trip}
use Rattle.vehicle_model.specs.Trips.{start_stop, end_stop}
use Rattle.vehicle_model.proofs.DeadLookups.{stops_more, within_more}
use Rattle.vehicle_model.proofs.dead_times.DeadTimes.new.Goals as goal

pub loop-trip-preserved : goal.loop-trip-preserved
loop-trip-preserved c =
    let network = c.args.network.now in
    let trips = c.args.trips.now in
    let i = c.loop-trip.trip-index in
    let before = c.loop-trip.invariant in
    record {
      starts = stops_more (start_stop network) trips i no_trip c.loop-trip.starts.items
          c.stop_index.result _ c.loop-trip-test.true before.starts c.stop_index.ensures.index
          c.in_ok-push.ensures.items;
      ends = stops_more (end_stop network) trips i no_trip c.loop-trip.ends.items
          c.stop_index-in-loop-trip.result _ c.loop-trip-test.true before.ends
          c.stop_index-in-loop-trip.ensures.index c.in_ok-push-2.ensures.items;
      starts_within = within_more (length network.stops) c.loop-trip.starts.items
          c.stop_index.result _ before.starts_within c.stop_index.ensures.within
          c.in_ok-push.ensures.items;
      ends_within = within_more (length network.stops) c.loop-trip.ends.items
          c.stop_index-in-loop-trip.result _ before.ends_within
          c.stop_index-in-loop-trip.ensures.within c.in_ok-push-2.ensures.items;
    }
