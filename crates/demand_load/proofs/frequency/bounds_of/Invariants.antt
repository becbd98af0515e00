-- The loads so far, with their bounds.
use Rattle.plan_num.proofs.Common.{◌≡◌, map, take}
use Rattle.demand_load.specs.LoadStage.{bounded}
use Rattle.demand_load.proofs.frequency.bounds_of.Given as goal

abbrev pub invariant-loop-load : goal.invariant-loop-load
invariant-loop-load l = l.bounds.items ≡ map (bounded l.settings) (take l.load-index l.loads)
