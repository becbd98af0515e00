-- What holds before each turn.
use Rattle.plan_num.proofs.Common.{◌≡◌, take, flat_map}
use Rattle.roll_out.specs.DayTrips.{trip_events}
use Rattle.roll_out.proofs.trip.day_events.Given as goal

abbrev pub invariant-loop-trip : goal.invariant-loop-trip
invariant-loop-trip l = l.events.items ≡ flat_map trip_events (take l.trip-index l.trips)
