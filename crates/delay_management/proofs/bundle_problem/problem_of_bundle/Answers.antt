use Rattle.plan_num.proofs.Common.{arith, ◌∙◌, err_from_is_err_and}
use Rattle.delay_management.proofs.RefusedInputs.{activities_refuse, activity_delays_refuse, event_delays_refuse}
use Rattle.delay_management.proofs.RefusedInputs.{events_refuse, no_faults, problem_is, schedule_refuses}
use Rattle.delay_management.proofs.bundle_problem.problem_of_bundle.Goals as goal

pub returns-in_err-events-clause-read : goal.returns-in_err-events-clause-read
returns-in_err-events-clause-read c = grind (arith, err_from_is_err_and, events_refuse)

pub returns-in_err-activities-clause-read : goal.returns-in_err-activities-clause-read
returns-in_err-activities-clause-read c = grind (arith, err_from_is_err_and, activities_refuse)

pub returns-in_err-schedule-clause-read : goal.returns-in_err-schedule-clause-read
returns-in_err-schedule-clause-read c = grind (arith, err_from_is_err_and, schedule_refuses)

pub returns-in_err-event_rows-clause-read : goal.returns-in_err-event_rows-clause-read
returns-in_err-event_rows-clause-read c = grind (arith, err_from_is_err_and, event_delays_refuse)

pub returns-in_err-activity_rows-clause-read : goal.returns-in_err-activity_rows-clause-read
returns-in_err-activity_rows-clause-read c = grind (
  arith,
  err_from_is_err_and,
  activity_delays_refuse,
)

pub returns-clause-read : goal.returns-clause-read
returns-clause-read c =
    let b = c.args.bundle.now in
    let events = c.in_ok-events.ensures.read in
    let activities = c.in_ok-activities.ensures.read in
    let schedule = c.in_ok-schedule.ensures.read in
    let event_rows = c.in_ok-event_rows.ensures.read in
    let activity_rows = c.in_ok-activity_rows.ensures.read in (
      no_faults b events.0 activities.0 schedule.0 event_rows.0 activity_rows.0,
      c.in_ok-problem.ensures.value ∙ problem_is b _ _ _ _ _ _ c.turnover_of-turnover.ensures.minutes
          events.1 activities.1 (c.deref-5.ensures.value ∙ schedule.1)
          (c.deref-6.ensures.value ∙ event_rows.1) (c.deref-7.ensures.value ∙ activity_rows.1),
    )
