-- The links and the minutes are those of the trips so far.
use Rattle.vehicle_model.proofs.Costs.{AreSumsBefore}
use Rattle.vehicle_model.proofs.cost.plan_cost.Given as goal

abbrev pub invariant-loop-i : goal.invariant-loop-i
invariant-loop-i l = AreSumsBefore l.trips l.plan l.i l.links l.minutes
