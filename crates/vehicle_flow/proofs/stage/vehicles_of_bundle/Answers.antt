use Rattle.plan_num.proofs.Common.{err_from_is_err_and}
use Rattle.vehicle_flow.proofs.VehicleMakes.{trips_refused, vehicles_given}
use Rattle.vehicle_flow.proofs.stage.vehicles_of_bundle.Goals as goal

pub returns-in_err-trips : goal.returns-in_err-trips
returns-in_err-trips c =
    let p = err_from_is_err_and c.from_residual.result c.from_residual.ensures.1 in
    rw (p.1, p.2) (trips_refused c.args.bundle.now c.in_err-trips.field-0.0 c.in_err-trips.ensures)

pub returns : goal.returns
returns c =
    let read = c.in_ok-trips.ensures in
    vehicles_given c.args.bundle.now c.in_ok-trips.trips c.in_ok-vehicles_made.field-0 read.0 read.1
    c.in_ok-vehicles_made.ensures
