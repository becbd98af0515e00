-- What holds before each turn.
use Rattle.plan_num.proofs.Common.{◌≡◌, map, take}
use Rattle.roll_out.specs.DayTrips.{trip_row}
use Rattle.roll_out.proofs.trip.trip_rows.Given as goal

abbrev pub invariant-loop-trip : goal.invariant-loop-trip
invariant-loop-trip l = l.rows.items ≡ map trip_row (take l.trip-index l.trips)
