-- The files of a day that are made, read again, are right.
use Rattle.plan_num.proofs.Common.{◌≡◌, ℕ, ℤ, ◌≤◌, arith, All, List, [], ◌++◌, length, map, Option}
use Rattle.plan_num.proofs.Common.{Some, None, refl, ap, subst, sym, Ok, Err, Result, IfOk}
use Rattle.plan_num.proofs.Common.{AllByRecursion, length-map, All-from_recursion}
use Rattle.plan_num.proofs.Common.{length-enumerate_from}
use Rattle.tables.specs.declared.counted.Counted.TheVariants as counted
use Rattle.tables.specs.declared.file_id.FileId.TheVariants as file
use Rattle.giv_files.specs.declared.key.Key.TheVariants as key
use Rattle.giv_files.specs.declared.made.Made.{Made}
use Rattle.giv_files.proofs.Common.{BundleParts, Fits, SettingsFit, StageGives, input_text}
use Rattle.giv_files.proofs.Common.{amount_within, made_unless, none_unless}
use Rattle.tables.specs.declared.refusal.StageFault.{StageFault}
use Rattle.tables.proofs.Common.{activities_x_columns, events_x_columns, trips_columns}
use Rattle.tables.proofs.Common.{input_faults, records_of, front_none, back_none, none_first}
use Rattle.tables.proofs.Common.{none_after, file_text}
use Rattle.tables.specs.declared.row_why.RowWhy.TheVariants as why
use Rattle.giv_files.specs.declared.stage.Stage.TheVariants as stage
use Rattle.event_tables.proofs.Common.{expanded_activity_cells, expanded_event_cells, trip_cells}
use Rattle.event_tables.proofs.Common.{IsExpandedActivity, expanded_activity_input}
use Rattle.event_tables.proofs.Common.{expanded_activity_header, expanded_event_header, trip_header}
use Rattle.event_tables.proofs.Common.{periodic_activity_input, periodic_time_input, runs_of}
use Rattle.event_tables.proofs.Common.{AreNumbered, KeepRunRules, trip_input}
use Rattle.event_tables.proofs.Common.{periodic_activities_sound, periodic_events_sound}
use Rattle.event_tables.proofs.Common.{periodic_times_sound}
use Rattle.pesp_model.specs.PespTexts.{activities_of, events_of}
use Rattle.roll_out.specs.DayActivities.{day_activities, day_changes, day_ways}
use Rattle.roll_out.specs.DayTrips.{TripParts, day_events, trip_events, trip_row}
use Rattle.roll_out.specs.Plans.{IsDay, IsTimed, IsTrip, PlanParts, plan_of, trips_by}
use Rattle.roll_out.specs.RightRollout.{AtStops, IsTripOver, RolloutIsAccepted, RolloutIsRight}
use Rattle.roll_out.specs.RolloutStage.{activities_in, day_in, events_in, file_faults, long_lists, made_of, network_in, period_in, rollout_faults, rollout_stage, run_faults, trip_rows, trips_in}
use Rattle.roll_out.specs.TimedRuns.{TimedParts}
use Rattle.roll_out.proofs.DayCells.{activities_fit, events_fit, trips_fit}
use Rattle.roll_out.proofs.DayChangesGood.{changes_good, events_of_trips, mapped_from}
use Rattle.roll_out.proofs.DayInWords.{changes_are_those, trips_are_those}
use Rattle.roll_out.proofs.EndsOfTrips.{trips_over}
use Rattle.roll_out.proofs.FilesRead.{activities_fine, events_fine, times_fine}
use Rattle.roll_out.proofs.GoodRuns.{IsFit, all_fit, runs_good}
use Rattle.roll_out.proofs.GoodTrips.{starts_rise, trip_stops, trip_takes}
use Rattle.roll_out.proofs.ListedEvents.{IsListed, all_listed, events_placed, parts_of_all}
use Rattle.roll_out.proofs.RolledTrips.{IsRolled, trips_rolled, ways_good}
use Rattle.roll_out.proofs.RolloutAccepted.{TripGood, activities_accepted, activities_again, activities_back, events_accepted, events_again, events_back, trips_accepted, trips_again, trips_back}
use Rattle.roll_out.proofs.NumberedActivities.{numbered_good, numbers_are}
use Rattle.roll_out.proofs.RuleRows.{activity_id, event_id}
use Rattle.roll_out.proofs.SoundPlans.{between_all, plans_are}
use Rattle.roll_out.proofs.SoundTrips.{events_counted, trips_counted, trips_sound}
use Rattle.roll_out.proofs.TripsOfDay.{trips_are}
use Rattle.plan_num.proofs.Lists.{unmapped, append_all}

module _ (bundle : BundleParts) (own : bundle.stage ≡ stage.Rollout) (fits : Fits bundle)
    (none : rollout_faults bundle ≡ []) (short : long_lists (network_in bundle) (trips_in bundle)
    ≡ []) where
  abbrev network : TimedParts
  network = network_in bundle

  abbrev trips : List TripParts
  trips = trips_in bundle

  setting_fits : SettingsFit stage.Rollout bundle.settings
  setting_fits = subst (λ of. SettingsFit of bundle.settings) own fits.settings

  period_within : (1 ≤ period_in bundle) × (period_in bundle ≤ 720)
  period_within = amount_within stage.Rollout bundle.settings key.PeriodLength _ _ setting_fits
      refl refl refl

  day_within : IsDay (day_in bundle)
  day_within = (
    (amount_within stage.Rollout bundle.settings key.DmEarliestTime _ _ setting_fits refl refl
        refl).1,
    (amount_within stage.Rollout bundle.settings key.DmLatestTime _ _ setting_fits refl refl
        refl).1,
  )

  files_none : file_faults bundle ≡ []
  files_none = none_first (file_faults bundle) (run_faults bundle) none

  runs_none : run_faults bundle ≡ []
  runs_none = none_after (file_faults bundle) (run_faults bundle) none

  -- the timetable of the inputs
  is_timed : IsTimed network
  unfolding events_of activities_of
  is_timed =
      let are = periodic_events_sound (input_text bundle 0) (events_fine bundle files_none) in
      let count = length (events_of (input_text bundle 0)) in
      let activities = subst (λ ids. input_faults (periodic_activity_input ids)
      (input_text bundle 1) ≡ []) are.numbered
      (activities_fine bundle files_none) in
      let times = subst (λ ids. input_faults
      (periodic_time_input file.TimesP (period_in bundle) ids) (input_text bundle 2) ≡ [])
      are.numbered (times_fine bundle files_none) in
      record {
        some = period_within.0;
        short = period_within.1;
        events_are = are;
        activities_are = periodic_activities_sound count (input_text bundle 1) activities;
        times_are = periodic_times_sound file.TimesP (period_in bundle) count (input_text bundle 2)
            times;
      }

  -- it keeps the rules of runs
  keep : KeepRunRules network.events network.activities
  keep = grind (arith, event_id, activity_id, front_none, runs_none, unmapped, back_none)

  fit : All (IsFit network) network.activities
  fit = all_fit network is_timed keep.placed

  rolled : AllByRecursion (IsRolled network) trips
  rolled = trips_rolled network (day_in bundle) (runs_good network is_timed keep)

  -- ---- the lists are not too long

  few_trips : length trips ≤ 2000
  few_trips = grind arith

  few_events : length (events_in bundle) ≤ 100000
  few_events = grind arith

  few_activities : length (activities_in bundle) ≤ 500000
  few_activities = grind arith

  abbrev plans : List PlanParts
  plans = map (plan_of network (day_in bundle)) (runs_of network.events)

  planned : trips_by network.period 1 plans ≡ trips
  planned = trips_are network (day_in bundle) period_within.0

  sound : All IsTrip trips
  sound = subst (All IsTrip) planned
      (trips_sound network.period period_within.1 1 plans
      (plans_are network is_timed (day_in bundle) day_within).each (omega arith)
      (omega (
        arith,
        few_events,
        events_counted network.period 1 plans,
        ap
            (λ some. length (day_events some)) planned,
      ))
      (omega (arith, few_trips, trips_counted network.period 1 plans, ap length planned)))

  -- ---- what they have keeps the rules of their kinds

  numbered : AreNumbered (λ event. event.id) (events_in bundle)
  numbered = events_placed network (day_in bundle)

  listed : AllByRecursion (IsListed (events_in bundle)) (events_in bundle)
  listed = all_listed (events_in bundle) numbered

  plain_good : AllByRecursion (IsExpandedActivity (events_in bundle))
      (day_ways trips ++ day_changes network (events_in bundle))
  plain_good =
      append_all (IsExpandedActivity (events_in bundle)) (day_ways trips)
      (day_changes network (events_in bundle))
      (ways_good network period_within.0 period_within.1 fit (events_in bundle) trips rolled
      (parts_of_all (IsListed (events_in bundle)) trip_events trips listed))
      (changes_good network period_within.0 period_within.1 is_timed.events_are.numbered fit
      (events_in bundle) listed
      (events_of_trips network trips rolled))

  activities_good : AllByRecursion (IsExpandedActivity (events_in bundle)) (activities_in bundle)
  unfolding day_activities
  activities_good = numbered_good (events_in bundle) 1 _ plain_good

  activities_placed : AreNumbered (λ row. row.id) (activities_in bundle)
  unfolding day_activities
  activities_placed = grind (arith, numbers_are, length-map, length-enumerate_from)

  trips_good : (stops : Option (List ℤ)) → AtStops stops network.events
      → AllByRecursion (TripGood stops) (trip_rows trips)
  trips_good None at =
      mapped_from (TripGood None) (IsRolled network) trip_row
      (λ trip is. (refl, trip_takes network period_within.0 period_within.1 fit trip is)) trips
      rolled
  trips_good (Some stops) at =
      mapped_from (TripGood (Some stops)) (IsRolled network) trip_row
      (λ trip is. (
        trip_stops network stops at trip is,
        trip_takes network period_within.0
            period_within.1 fit trip is,
      ))
      trips rolled

  -- ---- the files

  abbrev events_text : List ℕ
  events_text = file_text expanded_event_header events_x_columns expanded_event_cells
      (events_in bundle)

  abbrev activities_text : List ℕ
  activities_text =
      file_text expanded_activity_header activities_x_columns expanded_activity_cells
      (activities_in bundle)

  abbrev trips_text : List ℕ
  trips_text = file_text trip_header trips_columns trip_cells (trip_rows trips)

  rows_few : length (trip_rows trips) ≤ 2000
  rows_few = omega (arith, length-map trips trip_row, few_trips)

  -- they are accepted
  files_accepted : RolloutIsAccepted network.events events_text activities_text trips_text
  files_accepted = record {
    events_fine = events_accepted (events_in bundle) events_text numbered few_events
        (events_back (events_in bundle) (events_fit trips sound));
    activities_fine = subst (λ some. input_faults (expanded_activity_input some) activities_text
        ≡ [])
        (sym (events_again (events_in bundle) (events_fit trips sound)).1)
        (activities_accepted (events_in bundle) numbered (activities_in bundle) activities_text
        activities_placed
        few_activities activities_good (activities_back (activities_in bundle)
        (activities_fit trips sound network (between_all network is_timed) few_activities)));
    trips_fine = λ stops at. trips_accepted stops (trip_rows trips) trips_text rows_few
        (starts_rise network (day_in bundle) rolled) (trips_good stops at)
        (trips_back (trip_rows trips) (trips_fit trips sound));
    ends_fine = subst (λ some. All (IsTripOver some) (records_of (trip_input None) trips_text))
        (sym (events_again (events_in bundle) (events_fit trips sound)).1)
        (subst (All (IsTripOver (events_in bundle)))
        (sym (trips_again (trip_rows trips) (trips_fit trips sound)).1)
        (All-from_recursion (IsTripOver (events_in bundle)) (trip_rows trips)
        (trips_over network (events_in bundle) trips rolled
        (parts_of_all (IsListed (events_in bundle)) trip_events trips listed))));
  }

  pub made_right : RolloutIsRight bundle (made_of network trips)
  made_right = record {
    inputs = none;
    events = events_text;
    activities = activities_text;
    trips = trips_text;
    three = refl;
    reads_events = events_again (events_in bundle) (events_fit trips sound);
    reads_activities = activities_again (activities_in bundle)
        (activities_fit trips sound network (between_all network is_timed) few_activities);
    reads_trips = trips_again (trip_rows trips) (trips_fit trips sound);
    all_trips = trips_are_those network is_timed (day_in bundle) day_within;
    all_changes = changes_are_those network (events_in bundle);
    accepted = files_accepted;
  }

-- what the stage makes of inputs without a fault
pub rollout_is_right : (bundle : BundleParts) (made : Made) → bundle.stage ≡ stage.Rollout
    → Fits bundle
    → rollout_stage bundle ≡ Ok made → RolloutIsRight bundle made
unfolding rollout_stage
rollout_is_right bundle made own fits is =
    grind (arith, none_unless, none_first, none_after, made_unless, made_right)
