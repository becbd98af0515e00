use Rattle.plan_num.proofs.Common.{option_copied}
use Rattle.vehicle_flow.proofs.FirstRules.{broken_plan, judged_plan}
use Rattle.vehicle_flow.proofs.PassingOver.{broken_over, plan_over}
use Rattle.vehicle_flow.proofs.judge.first_fault.Goals as goal

pub returns-in-Ok-clause-first : goal.returns-in-Ok-clause-first
returns-in-Ok-clause-first c =
    let read = c.in-Ok.ensures.read in
    judged_plan c.args.trips.now c.args.schedule.now (option_copied c.args.potentials) c.in-Ok.plan
    read.0 read.1 c.certificate_fault.result c.certificate_fault.ensures.first

pub returns-in_ok-of_plan-in-Err-clause-first : goal.returns-in_ok-of_plan-in-Err-clause-first
returns-in_ok-of_plan-in-Err-clause-first c =
    broken_plan c.args.trips.now c.args.schedule.now (option_copied c.args.potentials) c.in-Err.fault
    c.in_ok-of_plan-in-Err.field-0 c.in-Err.ensures.read c.in_ok-of_plan-in-Err.ensures

pub returns-in-Ok-clause-over : goal.returns-in-Ok-clause-over
returns-in-Ok-clause-over c =
    let read = c.in-Ok.ensures.read in
    plan_over c.args.trips.now c.args.schedule.now (option_copied c.args.potentials) c.in-Ok.plan
    read.0 read.1 c.in-Ok.ensures.plan c.certificate_fault.result c.certificate_fault.ensures.first
    c.certificate_fault.ensures.passes

pub returns-in_ok-of_plan-in-Err-clause-over : goal.returns-in_ok-of_plan-in-Err-clause-over
returns-in_ok-of_plan-in-Err-clause-over c =
    broken_over _ c.in-Err.fault c.in_ok-of_plan-in-Err.field-0 c.in_ok-of_plan-in-Err.ensures
