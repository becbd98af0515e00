-- What the stage of the roll-out owes to the chain, and what later stages take of it.
use Rattle.plan_num.proofs.Common.{◌≡◌, ℕ, ℤ, List, [], ◌++◌, map, Some, inr, refl, arith}
use Rattle.tables.specs.declared.file_id.FileId.{FileId}
use Rattle.tables.specs.declared.file_id.FileId.TheVariants as file
use Rattle.giv_files.specs.declared.key.Key.TheVariants as key
use Rattle.tables.specs.declared.row_why.RowWhy.TheVariants as why
use Rattle.giv_files.specs.declared.stage.Stage.TheVariants as stage
use Rattle.tables.proofs.Common.{activities_p_columns, events_p_columns, input_faults, AllName}
use Rattle.tables.proofs.Common.{input_names, names_both, names_only, names_or_else}
use Rattle.giv_files.specs.Keys.{stage_keys}
use Rattle.giv_files.proofs.Common.{BundleParts, amount, input_text}
use Rattle.config_keys.proofs.Common.{part_of}
use Rattle.ptn_network.specs.Networks.{stops_of}
use Rattle.event_tables.proofs.Common.{broken_events, stray_activities, unjoined_events, trip_input}
use Rattle.pesp_model.specs.PespTexts.{activities_of, events_of}
use Rattle.pesp_search.proofs.TimetableMakes.{timetable_faults_name}
use Rattle.roll_out.specs.RightRollout.{RolloutIsAccepted}
use Rattle.roll_out.specs.RolloutStage.{faults_at, file_faults, network_in, rollout_faults, run_faults, times_in}
use Rattle.roll_out.proofs.RolloutMakes.{rollout_stage_makes, rollout_stage_names, rows_name}
use Rattle.roll_out.proofs.RolloutReads.{rollout_is_right}
use Rattle.stage_chain.specs.Hand.{is_hand, is_hand_file}
use Rattle.stage_chain.specs.Laws.{IsRightOver, bundle_over}
use Rattle.planning_stages.specs.Places.{in_place}
use Rattle.planning_stages.specs.Planning.{planning, stage_model}
use Rattle.planning_stages.proofs.ContentFiles.{content_none, content_stands}
use Rattle.planning_stages.proofs.EanLaws.{at_stops, network_accepted, periodic_accepted}
use Rattle.planning_stages.proofs.StageLaws.{StageLaws, any, fine}
use Rattle.planning_stages.proofs.TimetableLaws.{times_accepted}

-- what it refuses of its inputs is a row of them
module _ (bundle : BundleParts) where
  runs_named : AllName any (run_faults bundle)
  runs_named =
      let events = (network_in bundle).events in
      let activities = (network_in bundle).activities in
      let first = faults_at file.EventsP events_p_columns (input_text bundle 0) why.BrokenRun
      (map (λ event. event.id) (broken_events events)) in
      let next = faults_at file.EventsP events_p_columns (input_text bundle 0) why.Unjoined
      (map (λ event. event.id) (unjoined_events events activities)) in
      let last = faults_at file.ActivitiesP activities_p_columns (input_text bundle 1) why.StrayActivity
      (map (λ activity. activity.id) (stray_activities events activities)) in
      names_both any (first ++ next) last
      (names_both any first next
      (rows_name any file.EventsP refl events_p_columns (input_text bundle 0) why.BrokenRun _)
      (rows_name any file.EventsP refl events_p_columns (input_text bundle 0) why.Unjoined _))
      (rows_name any file.ActivitiesP refl activities_p_columns (input_text bundle 1) why.StrayActivity _)

  rollout_named : AllName any (rollout_faults bundle)
  rollout_named =
      names_or_else any (file_faults bundle) (run_faults bundle)
      (names_both any _ _ (timetable_faults_name any refl refl bundle)
      (input_names any (times_in bundle) (input_text bundle 2) refl))
      runs_named

module _ (values : List ℤ) (look : FileId → List ℕ) where
  -- the period is the same for each stage that has it
  same_period : amount (part_of values stage.Timetable) key.PeriodLength
      ≡ amount (part_of values stage.Rollout) key.PeriodLength
  unfolding stage_keys
  same_period = refl

  given_accepted : IsRightOver planning values look stage.Ean
      → IsRightOver planning values look (in_place values stage.Timetable)
      → rollout_faults (bundle_over values look stage.Rollout) ≡ []
  unfolding events_of activities_of
  given_accepted ean times =
      let runs = (network_accepted values look ean).runs_fine in
      let read : input_faults (times_in (bundle_over values look stage.Rollout)) (look file.TimesP) ≡ [] =
      times_accepted values look times _ same_period in
      rw (periodic_accepted values look ean, read) (rw (runs.whole, runs.joined, runs.placed) refl)

pub rollout_laws : StageLaws stage.Rollout
unfolding planning stage_model is_hand
rollout_laws = record {
  makes = rollout_stage_makes;
  right = rollout_is_right;
  refuses =
      λ values look reason was is. names_only is_hand_file reason
      (rollout_stage_names is_hand_file (bundle_over values look stage.Rollout) reason
      (fine (given_accepted values look (was stage.Ean refl) (was stage.Timetable refl))) is);
  names = λ bundle reason is. inr (rollout_stage_names any bundle reason (rollout_named bundle) is);
  stand = λ values folder bundle lacks none. content_stands stage.Rollout refl refl folder lacks;
  unbroken = λ values look made own. content_none stage.Rollout _ made own.0;
}

module _ (values : List ℤ) (look : FileId → List ℕ) (day : IsRightOver planning values look stage.Rollout) where
  -- what it made is accepted
  pub day_made : RolloutIsAccepted (events_of (look file.EventsP)) (look file.EventsX) (look file.ActivitiesX)
      (look file.Trips)
  unfolding planning stage_model
  day_made = grind arith

  pub trips_accepted : IsRightOver planning values look stage.Ean
      → input_faults (trip_input (Some (stops_of (look file.Stop)))) (look file.Trips) ≡ []
  trips_accepted ean = day_made.trips_fine (Some (stops_of (look file.Stop))) (at_stops values look ean)
