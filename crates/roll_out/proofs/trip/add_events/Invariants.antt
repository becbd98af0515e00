-- What holds before each turn.
use Rattle.plan_num.proofs.Common.{◌≡◌, ◌++◌, map, take, enumerate_from}
use Rattle.roll_out.specs.DayTrips.{day_event}
use Rattle.roll_out.proofs.trip.add_events.Given as goal

abbrev pub invariant-loop-place : goal.invariant-loop-place
invariant-loop-place l =
    l.events.items ≡ l.fn.events.items ++ map (day_event l.trip.start)
    (take l.place (enumerate_from l.trip.first l.trip.run))
