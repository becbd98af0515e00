-- What holds before each turn.
use Rattle.plan_num.proofs.Common.{◌≡◌, ◌*◌, ◌≤◌, length, take, flat_map}
use Rattle.roll_out.specs.DayActivities.{trip_ways}
use Rattle.roll_out.proofs.ways.way_count.Given as goal

abbrev pub invariant-loop-trip : goal.invariant-loop-trip
invariant-loop-trip l = record {
  told : l.count ≡ length (flat_map trip_ways (take l.trip-index l.trips));
  few : l.count ≤ 4000 * l.trip-index;
}
