-- The trips of the steps so far are taken in.
use Rattle.plan_search.proofs.TakenIn.{AreTakenIn}
use Rattle.plan_search.proofs.cheapest.take_all.Given as goal

abbrev pub invariant-loop-step : goal.invariant-loop-step
invariant-loop-step l = AreTakenIn l.fn.tight l.tight l.step
