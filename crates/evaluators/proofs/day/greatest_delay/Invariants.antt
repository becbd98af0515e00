-- The greatest delay so far goes on as the first one does.
use Rattle.std.proofs.Common.{◌≡◌, drop, map, zip}
use Rattle.propagation.proofs.Common.{latest}
use Rattle.evaluators.specs.Statistic.{greatest_delay, minutes_late}
use Rattle.evaluators.proofs.day.greatest_delay.Given as goal

abbrev pub invariant-loop-index : goal.invariant-loop-index
invariant-loop-index l =
    latest l.greatest (map minutes_late (zip (drop l.index l.events) (drop l.index l.times)))
    ≡ greatest_delay l.events l.times
