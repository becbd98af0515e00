use Rattle.plan_num.proofs.Common.{sym, subst, map}
use Rattle.tables.proofs.Common.{Refuses}
use Rattle.vehicle_model.specs.ReadSchedules.{plan_faults, plan_of}
use Rattle.vehicle_flow.specs.PinnedSchedules.{plan_refusal}
use Rattle.vehicle_flow.proofs.PinnedGives.{plan_refused}
use Rattle.vehicle_flow.proofs.pinned.given_plan.Goals as goal

pub returns-in-Err-clause-read : goal.returns-in-Err-clause-read
returns-in-Err-clause-read c =
    let faults = plan_faults c.args.trips.now c.args.schedule.now in
    subst (Refuses (map plan_refusal faults)) (sym c.refused_as.ensures)
    (plan_refused faults (plan_of c.args.trips.now c.args.schedule.now) c.in-Err.fault c.in-Err.ensures.read)
