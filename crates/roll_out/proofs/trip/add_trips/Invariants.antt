-- What holds before each turn.
use Rattle.plan_num.proofs.Common.{◌≡◌, ◌++◌, map, range_with_len}
use Rattle.roll_out.specs.Plans.{trip_after}
use Rattle.roll_out.proofs.trip.add_trips.Given as goal

abbrev pub invariant-loop-earlier : goal.invariant-loop-earlier
invariant-loop-earlier l =
    l.trips.items
    ≡ l.fn.trips.items ++ map (trip_after l.period l.first l.plan) (range_with_len 0 l.earlier)
