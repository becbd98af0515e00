-- What holds before each turn.
use Rattle.plan_num.proofs.Common.{◌≡◌, ◌++◌, take, flat_map, enumerate_from}
use Rattle.roll_out.specs.DayActivities.{way_from}
use Rattle.roll_out.proofs.ways.add_trip_ways.Given as goal

abbrev pub invariant-loop-place : goal.invariant-loop-place
invariant-loop-place l =
    l.activities.items ≡ l.fn.activities.items ++ flat_map (λ at. way_from at.1.event.kind at.0 at.1.way)
    (take l.place (enumerate_from l.trip.first l.trip.run))
