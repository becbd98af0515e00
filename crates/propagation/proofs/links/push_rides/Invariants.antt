-- The links so far and those of the rides that are left are all of them.
use Rattle.plan_num.proofs.Common.{◌≡◌, ◌++◌, drop}
use Rattle.propagation.specs.Links.{ride_links}
use Rattle.propagation.proofs.links.push_rides.Given as goal

abbrev pub invariant-loop-ride : goal.invariant-loop-ride
invariant-loop-ride l =
    l.links.items ++ ride_links l.events (drop l.ride-index l.rides)
    ≡ l.fn.links.items ++ ride_links l.events l.rides
