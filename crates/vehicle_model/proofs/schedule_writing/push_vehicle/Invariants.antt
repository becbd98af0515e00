-- The rows are those behind the trip of a turn.
use Rattle.vehicle_model.proofs.VehicleRows.{AreBehindTurn}
use Rattle.vehicle_model.proofs.schedule_writing.push_vehicle.Given as goal

abbrev pub invariant-loop-turn : goal.invariant-loop-turn
invariant-loop-turn l = AreBehindTurn l.trips l.plan l.vehicle l.first l.fn.rows.items l.rows.items
    l.number l.last l._turn
