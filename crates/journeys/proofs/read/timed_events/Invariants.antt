-- The events so far and those of the rows that are left are all of them.
use Rattle.plan_num.proofs.Common.{◌≡◌, ◌++◌, drop, map, zip}
use Rattle.journeys.specs.JourneyNets.{timed}
use Rattle.journeys.proofs.read.timed_events.Given as goal

abbrev pub invariant-loop-index : goal.invariant-loop-index
invariant-loop-index l =
    l.timed_events.items ++ map timed (zip (drop l.index l.events) (drop l.index l.times))
    ≡ map timed (zip l.events l.times)
