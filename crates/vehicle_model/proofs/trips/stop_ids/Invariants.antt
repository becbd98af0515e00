-- The ids so far are those of the stops so far.
use Rattle.plan_num.proofs.Common.{◌≡◌, take}
use Rattle.vehicle_model.proofs.trips.stop_ids.Given as goal

abbrev pub invariant-loop-stop : goal.invariant-loop-stop
invariant-loop-stop l = l.ids.items ≡ take l.stop l.network.stops
