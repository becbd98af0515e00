use Rattle.plan_num.proofs.Common.{◌∙◌, ap}
use Rattle.giv_files.specs.declared.key.Key.TheVariants as key
use Rattle.giv_files.proofs.Common.{amount}
use Rattle.vehicle_flow.proofs.GivenTrips.{trips_given}
use Rattle.vehicle_flow.proofs.given.given_trips.Goals as goal

pub returns : goal.returns
returns c =
    trips_given c.args.bundle.now c.requires.stage c.requires.fits c.input.result.now c.input-2.result.now
    c.input-3.result.now c.amount.result c.amount-2.result c.amount-3.result
    c.input.ensures c.input-2.ensures c.input-3.ensures
    (c.amount.ensures.amount ∙ ap (λ settings. amount settings key.VsTurnOverTime) c.settings.ensures)
    (c.amount-2.ensures.amount ∙ ap (λ settings. amount settings key.VsVehicleCosts) c.settings-2.ensures)
    (c.amount-3.ensures.amount ∙ ap (λ settings. amount settings key.VsEmptyCosts) c.settings-3.ensures)
    c.from_texts.result c.from_texts.ensures
