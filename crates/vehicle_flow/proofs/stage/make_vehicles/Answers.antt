use Rattle.vehicle_flow.proofs.VehicleLaws.{right_given}
use Rattle.vehicle_flow.proofs.stage.make_vehicles.Goals as goal

pub returns-clause-right : goal.returns-clause-right
returns-clause-right g c =
    right_given c.args.bundle.now c.requires.stage c.requires.fits c.vehicles_of_bundle.result
    c.vehicles_of_bundle.ensures
