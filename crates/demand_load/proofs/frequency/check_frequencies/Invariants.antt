-- No frequency so far is too great.
use Rattle.plan_num.proofs.Common.{◌≡◌, drop}
use Rattle.demand_load.specs.LoadStage.{frequency_faults}
use Rattle.demand_load.proofs.frequency.check_frequencies.Given as goal

abbrev pub invariant-loop-load : goal.invariant-loop-load
invariant-loop-load l = frequency_faults (drop l.load-index l.loads) ≡ frequency_faults l.loads
