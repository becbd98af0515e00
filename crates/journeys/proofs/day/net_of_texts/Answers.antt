use Rattle.plan_num.proofs.Common.{◌≡◌, ◌∙◌, List, [], ap, sym, subst, option_copied}
use Rattle.plan_num.proofs.Common.{err_from_is_err_and}
use Rattle.tables.proofs.Common.{Refuses, input_faults, records_of}
use Rattle.event_tables.specs.declared.expanded_event.ExpandedEvent.{ExpandedEvent}
use Rattle.event_tables.proofs.Common.{expanded_activity_input}
use Rattle.journeys.specs.JourneyNets.{net_over, time_faults_over, times_over}
use Rattle.journeys.proofs.DayTexts.{net_is, refused_activities, refused_events, time_faults}
use Rattle.journeys.proofs.day.net_of_texts.Goals as goal

pub returns-in_err-events-clause-read : goal.returns-in_err-events-clause-read
returns-in_err-events-clause-read c =
    let p = err_from_is_err_and c.from_residual.result c.from_residual.ensures.1 in
    rw (p.1, p.2)
    (refused_events c.args.events.now c.args.activities.now (option_copied c.args.times)
    c.in_err-events.field-0.0 c.in_err-events.ensures.read)

pub returns-in_err-activities-clause-read : goal.returns-in_err-activities-clause-read
returns-in_err-activities-clause-read c =
    let p = err_from_is_err_and c.from_residual-in_err-activities.result
    c.from_residual-in_err-activities.ensures.1 in
    let read = c.in_ok-events.ensures.read in
    rw (p.1, p.2) (refused_activities c.args.events.now c.args.activities.now
    (option_copied c.args.times) c.deref.result.now read.0 (c.deref.ensures.value ∙ read.1)
    c.in_err-activities.field-0.0 c.in_err-activities.ensures.read)

pub returns-in_err-times-clause-read : goal.returns-in_err-times-clause-read
returns-in_err-times-clause-read c =
    let p = err_from_is_err_and c.from_residual-in_err-times.result
    c.from_residual-in_err-times.ensures.1 in
    let fault = c.in_err-times.field-0.0 in
    let times = option_copied c.args.times in
    let read = c.in_ok-events.ensures.read in
    let rows = subst (λ (some : List ExpandedEvent).
    (input_faults (expanded_activity_input some) c.args.activities.now ≡ [])
    × (c.in_ok-activities.activities.items
    ≡ records_of (expanded_activity_input some) c.args.activities.now)) c.deref.ensures.value
    c.in_ok-activities.ensures.read in
    let all = ap
    (λ (some : List ExpandedEvent). time_faults_over some times) c.deref-2.ensures.value
    ∙ time_faults c.args.events.now c.args.activities.now times c.in_ok-events.events.items read.0
    read.1 c.in_ok-activities.activities.items rows.0 rows.1 in
    rw (p.1, p.2) (subst (λ some. Refuses some fault) all c.in_err-times.ensures.read)

pub returns-clause-read : goal.returns-clause-read
returns-clause-read c =
    let times = option_copied c.args.times in
    let read = c.in_ok-events.ensures.read in
    let events = c.in_ok-events.events.items in
    let activities = c.in_ok-activities.activities.items in
    let rows = subst (λ (some : List ExpandedEvent).
    (input_faults (expanded_activity_input some) c.args.activities.now ≡ [])
    × (activities ≡ records_of (expanded_activity_input some) c.args.activities.now))
    c.deref.ensures.value c.in_ok-activities.ensures.read in
    let told = subst (λ (some : List ExpandedEvent). (time_faults_over some times ≡ [])
    × (c.in_ok-times.times.items ≡ times_over some times)) c.deref-2.ensures.value
    c.in_ok-times.ensures.read in (
      sym (time_faults c.args.events.now c.args.activities.now times events read.0 read.1 activities
          rows.0 rows.1) ∙ told.0,
      c.in_ok-net.ensures.value
          ∙ (λ i. net_over (c.deref-3.ensures.value i) (c.deref-5.ensures.value i)
          (c.deref-4.ensures.value i))
          ∙ net_is c.args.events.now c.args.activities.now times events read.0 read.1 activities
          rows.0 rows.1 c.in_ok-times.times.items told.1,
    )
