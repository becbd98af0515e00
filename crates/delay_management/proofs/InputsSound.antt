-- What is known of inputs without a fault.
use Rattle.plan_num.proofs.Common.{◌≡◌, ◌≤◌, Bool, true, false, List, [], ◌++◌, length, map, filter}
use Rattle.plan_num.proofs.Common.{get_or, All, refl, sym, subst, arith, ints, length-map}
use Rattle.plan_num.proofs.Common.{All-append, All-filter, All-map}
use Rattle.tables.specs.declared.file_id.FileId.TheVariants as file
use Rattle.tables.specs.declared.row_why.RowWhy.TheVariants as why
use Rattle.giv_files.specs.declared.key.Key.TheVariants as key
use Rattle.giv_files.specs.declared.stage.Stage.TheVariants as stage
use Rattle.tables.proofs.Common.{input_faults, records_of, back_none, front_none}
use Rattle.giv_files.proofs.Common.{BundleParts, Fits, SettingsFit, input_text, amount_within}
use Rattle.event_tables.specs.declared.expanded_activity.ExpandedActivity.{ExpandedActivity}
use Rattle.event_tables.specs.declared.expanded_event.ExpandedEvent.{ExpandedEvent}
use Rattle.event_tables.specs.declared.schedule_row.ScheduleRow.{ScheduleRow}
use Rattle.event_tables.proofs.Common.{AreDelays, activity_delay_input, event_delay_input}
use Rattle.event_tables.proofs.Common.{AreExpandedActivities, AreExpandedEvents, AreScheduleRows}
use Rattle.event_tables.proofs.Common.{is_empty_row, expanded_activities_sound}
use Rattle.event_tables.proofs.Common.{expanded_events_sound, delays_sound, schedule_rows_sound}
use Rattle.delay_management.specs.DispositionStage.{activities_in, activity_delay_faults, activity_delays_in}
use Rattle.delay_management.specs.DispositionStage.{activity_faults, delay_faults, disposition_faults}
use Rattle.delay_management.specs.DispositionStage.{event_delay_faults, event_delays_in, event_faults, events_in}
use Rattle.delay_management.specs.DispositionStage.{made_faults, problem_in, schedule_faults, schedule_in, turnover_in}
use Rattle.propagation.proofs.Common.{IsForward, minutes, steps_with, steps_all}
use Rattle.delay_management.specs.InputProblems.{activities_of, delayed, earliest_of, is_of, turn_of}
use Rattle.delay_management.proofs.SoonInputs.{delay_below}
use Rattle.delay_management.proofs.ForwardInputs.{inputs_go_forward, some_ids}

-- what is read of inputs without a fault
pub record AreInputs (bundle : BundleParts) : Type 0 where
  pub events : AreExpandedEvents (events_in bundle)
  pub activities : AreExpandedActivities (events_in bundle) (activities_in bundle)
  pub schedule : AreScheduleRows (events_in bundle) (schedule_in bundle)
  pub event_delays : AreDelays (length (events_in bundle)) (event_delays_in bundle)
  pub activity_delays : AreDelays (length (activities_in bundle)) (activity_delays_in bundle)

pub are_inputs : (bundle : BundleParts) → disposition_faults bundle ≡ [] → AreInputs bundle
unfolding disposition_faults events_in activities_in schedule_in event_delays_in activity_delays_in
are_inputs bundle none =
    let made = front_none (made_faults bundle) (delay_faults bundle) none in
    let delays = back_none (made_faults bundle) (delay_faults bundle) none in
    let A = event_faults bundle in
    let B = activity_faults bundle in
    let C = schedule_faults bundle in
    let D = event_delay_faults bundle in
    let E = activity_delay_faults bundle in
    let events = expanded_events_sound (input_text bundle 0) (front_none A (B ++ C) made) in
    let behind = back_none A (B ++ C) made in
    let activities = expanded_activities_sound (events_in bundle) (input_text bundle 1) events.numbered
    (front_none B C behind) in
    record {
      events = events;
      activities = activities;
      schedule = schedule_rows_sound (events_in bundle) (input_text bundle 2) events.numbered (back_none B C behind);
      event_delays = subst (λ ids. AreDelays (length (events_in bundle))
          (records_of (event_delay_input ids) (input_text bundle 3))) (sym events.numbered)
          (delays_sound file.EventDelays why.UnknownEvent (length (events_in bundle)) (input_text bundle 3)
          (subst (λ ids. input_faults (event_delay_input ids) (input_text bundle 3) ≡ []) events.numbered
          (front_none D E delays)));
      activity_delays = subst (λ ids. AreDelays (length (activities_in bundle))
          (records_of (activity_delay_input ids) (input_text bundle 4))) (sym activities.numbered)
          (delays_sound file.ActivityDelays why.UnknownActivity (length (activities_in bundle)) (input_text bundle 4)
          (subst (λ ids. input_faults (activity_delay_input ids) (input_text bundle 4) ≡ []) activities.numbered
          (back_none D E delays)));
    }

-- ---- numbers that are not too great

module _ (bundle : BundleParts) (are : AreInputs bundle) where
  abbrev events : List ExpandedEvent
  events = events_in bundle

  abbrev activities : List ExpandedActivity
  activities = activities_in bundle

  abbrev schedule : List ScheduleRow
  schedule = schedule_in bundle

  pub problem_forward : IsForward (problem_in bundle)
  unfolding problem_in
  problem_forward =
      inputs_go_forward (turnover_in bundle) events activities schedule (event_delays_in bundle)
      (activity_delays_in bundle) are.events are.activities are.schedule

  pub events_few : length (problem_in bundle).events ≤ 100000
  unfolding problem_in
  events_few = grind (arith, length-map)

  pub activity_ids : All (λ activity. activity.id ≤ 500000) ((problem_in bundle).rides ++ (problem_in bundle).changes)
  unfolding problem_in
  activity_ids =
      let some = some_ids (turnover_in bundle) events activities schedule (event_delays_in bundle)
      (activity_delays_in bundle) are.events are.activities are.schedule in
      All-append (λ activity. activity.id ≤ 500000) (problem_in bundle).rides (problem_in bundle).changes (some false)
      (some true)

  pub earliest_soon : All (λ time. time ≤ 2000000000) (problem_in bundle).earliest
  unfolding problem_in
  earliest_soon =
      All-map (λ time. time ≤ 2000000000) (earliest_of (event_delays_in bundle)) events
      (λ k d inside.
      let event = get_or events k d in grind (arith, delay_below, ints))

  some_short : (changes : Bool) → All (λ activity. minutes activity.step ≤ 2000000000)
      (activities_of changes (activity_delays_in bundle) activities)
  some_short changes =
      All-map (λ activity. minutes activity.step ≤ 2000000000) (delayed (activity_delays_in bundle))
      (filter (is_of changes) activities)
      (All-filter (is_of changes) (λ row. minutes
      (delayed (activity_delays_in bundle) row).step ≤ 2000000000) activities
      (λ k d inside.
      let row = get_or activities k d in
      let fit = are.activities.fit k d inside in
      let late = delay_below (activity_delays_in bundle) are.activity_delays.fit row.id in
      omega (arith, ints, fit.1.1.1.1.1.0.1, late)))

  turns_short : turnover_in bundle ≤ 10000
      → All (λ turn. minutes turn ≤ 2000000000) (map (turn_of (turnover_in bundle)) (filter is_empty_row schedule))
  turns_short few =
      All-map (λ turn. minutes turn ≤ 2000000000) (turn_of (turnover_in bundle)) (filter is_empty_row schedule)
      (All-filter is_empty_row (λ row. minutes (turn_of (turnover_in bundle) row) ≤ 2000000000) schedule
      (λ k d inside.
      let fit = are.schedule.fit k d inside in
      omega (arith, ints, fit.1.1.1.1.1.1.1.1.1.1.1.0.1, few)))

  pub steps_short : turnover_in bundle ≤ 10000
      → All (λ step. minutes step ≤ 2000000000) (steps_with (problem_in bundle) (problem_in bundle).changes)
  unfolding problem_in
  steps_short few =
      steps_all (problem_in bundle) (λ step. minutes step ≤ 2000000000) (problem_in bundle).changes (some_short false)
      (some_short true) (turns_short few)

pub turnover_few : (bundle : BundleParts) → bundle.stage ≡ stage.Disposition → Fits bundle → turnover_in bundle ≤ 10000
turnover_few bundle own fits =
    (amount_within stage.Disposition bundle.settings key.VsTurnOverTime _ _
    (subst (λ of. SettingsFit of bundle.settings) own fits.settings) refl refl refl).1
