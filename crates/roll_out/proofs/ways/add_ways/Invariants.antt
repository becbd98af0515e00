-- What holds before each turn.
use Rattle.plan_num.proofs.Common.{◌≡◌, ◌++◌, take, flat_map}
use Rattle.roll_out.specs.DayActivities.{trip_ways}
use Rattle.roll_out.proofs.ways.add_ways.Given as goal

abbrev pub invariant-loop-trip : goal.invariant-loop-trip
invariant-loop-trip l =
    l.activities.items ≡ l.fn.activities.items ++ flat_map trip_ways (take l.trip-index l.trips)
