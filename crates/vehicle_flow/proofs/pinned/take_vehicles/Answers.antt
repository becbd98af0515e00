use Rattle.vehicle_flow.proofs.PinnedMakes.{pinned_given}
use Rattle.vehicle_flow.proofs.pinned.take_vehicles.Goals as goal

pub returns-clause-right : goal.returns-clause-right
returns-clause-right g c =
    pinned_given c.args.bundle.now c.requires.stage c.requires.fits c.schedule_of_bundle.result
    c.schedule_of_bundle.ensures
