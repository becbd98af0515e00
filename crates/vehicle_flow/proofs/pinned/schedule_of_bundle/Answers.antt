use Rattle.plan_num.proofs.Common.{err_from_is_err_and}
use Rattle.vehicle_flow.proofs.PinnedGives.{inputs_refused, kept_given, schedule_refused}
use Rattle.vehicle_flow.proofs.pinned.schedule_of_bundle.Goals as goal

pub returns-in_err-trips : goal.returns-in_err-trips
returns-in_err-trips c =
    let p = err_from_is_err_and c.from_residual.result c.from_residual.ensures.1 in
    rw (p.1, p.2) (inputs_refused c.args.bundle.now c.in_err-trips.field-0.0 c.in_err-trips.ensures)

pub returns-in_err-plan : goal.returns-in_err-plan
returns-in_err-plan c =
    let p = err_from_is_err_and c.from_residual-in_err-plan.result c.from_residual-in_err-plan.ensures.1 in
    let read = c.in_ok-trips.ensures in
    rw (p.1, p.2) (schedule_refused c.args.bundle.now c.in_ok-trips.trips read.0 read.1 c.input.result.now
    c.input.ensures c.in_err-plan.field-0.0 c.in_err-plan.ensures.read)

pub returns : goal.returns
returns c =
    let read = c.in_ok-trips.ensures in
    let planned = c.in_ok-plan.ensures.read in
    kept_given c.args.bundle.now c.in_ok-trips.trips read.0 read.1 c.input.result.now c.input.ensures
    c.in_ok-plan.plan c.input-2.result.now c.in_ok-potentials.potentials c.in_ok-plan_kept.field-0
    planned.0 planned.1 c.input-2.ensures c.in_ok-potentials.ensures.marking c.in_ok-plan_kept.ensures
