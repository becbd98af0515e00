use Rattle.evaluators.proofs.ValuesOfParts.{periodic_are}
use Rattle.evaluators.proofs.periodic.values_of.Goals as goal

pub returns : goal.returns
returns c =
    periodic_are c.args.period c.args.events.now c.args.activities.now c.args.times.now _ _ _
    c.minutes_with.ensures c.minutes_with-2.ensures c.minutes_with-3.ensures
