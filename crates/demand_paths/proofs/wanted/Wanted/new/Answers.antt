use Rattle.demand_paths.proofs.WantedSums.{sum_between-none}
use Rattle.demand_paths.proofs.wanted.Wanted.new.Goals as goal

pub returns-clause-none : goal.returns-clause-none
returns-clause-none c = λ passes. sum_between-none passes 0 _ c.loop-stop.invariant.none
