-- The rows are those of the vehicles so far.
use Rattle.vehicle_model.proofs.VehicleRows.{AreBefore}
use Rattle.vehicle_model.proofs.schedule_writing.plan_rows.Given as goal

abbrev pub invariant-loop-index : goal.invariant-loop-index
invariant-loop-index l = AreBefore l.trips l.plan l.starts.items l.index l.rows.items
