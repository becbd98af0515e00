use Rattle.plan_num.proofs.Common.{◌∙◌, ap, option_copied}
use Rattle.vehicle_flow.specs.ScheduleChecks.{schedule_fault}
use Rattle.vehicle_flow.proofs.PassingOver.{right_over_bundle}
use Rattle.vehicle_flow.proofs.ScheduleAnswers.{none_where}
use Rattle.vehicle_flow.proofs.check.check_schedule.Goals as goal

pub returns-clause-only : goal.returns-clause-only
returns-clause-only c right =
    let potentials = option_copied c.args.potentials in
    c.in_ok-first_fault.ensures.first
    ∙ ap (λ trips. schedule_fault trips c.args.schedule.now potentials) c.in_ok-trips.ensures.1
    ∙ none_where c.args.bundle.now c.args.schedule.now potentials right

pub returns-clause-bare : goal.returns-clause-bare
returns-clause-bare c =
    right_over_bundle c.args.bundle.now c.in_ok-trips.ensures.0 c.in_ok-trips.trips c.in_ok-trips.ensures.1
    c.args.schedule.now (option_copied c.args.potentials) _ c.in_ok-first_fault.ensures.over
