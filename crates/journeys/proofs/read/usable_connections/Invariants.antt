-- The connections so far and those of the activities that are left are all of them.
use Rattle.plan_num.proofs.Common.{◌≡◌, ◌++◌, drop, filter, map}
use Rattle.journeys.specs.JourneyNets.{connection_of, is_usable}
use Rattle.journeys.proofs.read.usable_connections.Given as goal

abbrev pub invariant-loop-activity : goal.invariant-loop-activity
invariant-loop-activity l =
    l.connections.items
    ++ map connection_of (filter (is_usable l.times) (drop l.activity-index l.activities))
    ≡ map connection_of (filter (is_usable l.times) l.activities)
