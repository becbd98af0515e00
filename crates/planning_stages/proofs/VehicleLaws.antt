-- What the stages of vehicles owe to the chain, and what later stages take of the schedule.
use Rattle.plan_num.proofs.Common.{arith, ◌≡◌, ℕ, ℤ, Bool, true, false, cond, inr, List, [], ◌∷◌}
use Rattle.plan_num.proofs.Common.{map, slice_get, Option, Some, None, option_to_list, refl, subst}
use Rattle.plan_num.proofs.Common.{sym, All-weaker}
use Rattle.plan_files.proofs.Common.{Folder}
use Rattle.tables.specs.declared.file_id.FileId.{FileId}
use Rattle.tables.specs.declared.file_id.FileId.TheVariants as file
use Rattle.giv_files.specs.declared.key.Key.TheVariants as key
use Rattle.giv_files.specs.declared.made.MadeFile.{MadeFile}
use Rattle.tables.specs.declared.refusal.Refusal.{Refusal}
use Rattle.giv_files.specs.declared.stage.Stage.TheVariants as stage
use Rattle.tables.proofs.Common.{input_faults, records_of, AllName, input_names, names_only}
use Rattle.giv_files.specs.Keys.{stage_keys}
use Rattle.giv_files.proofs.Common.{MakesAs, ids_of, BundleParts, input_text}
use Rattle.ptn_network.specs.Networks.{stops_of}
use Rattle.event_tables.specs.declared.expanded_event.ExpandedEvent.{ExpandedEvent}
use Rattle.event_tables.specs.declared.trip.Trip.{Trip}
use Rattle.event_tables.proofs.Common.{expanded_event_input, schedule_input, trip_input}
use Rattle.roll_out.specs.RightRollout.{IsTripOver}
use Rattle.vehicle_model.specs.ReadSchedules.{or_others}
use Rattle.vehicle_model.specs.Trips.{trips_of}
use Rattle.vehicle_flow.specs.declared.schedule_fault.ScheduleFault.{ScheduleFault}
use Rattle.vehicle_flow.specs.declared.schedule_fault.ScheduleFault.TheVariants as rule
use Rattle.vehicle_flow.specs.AcceptedSchedules.{IsRolledOut}
use Rattle.vehicle_flow.specs.RightSchedules.{PinnedScheduleIsRight}
use Rattle.vehicle_flow.specs.RightVehicles.{VehicleFilesAreRight}
use Rattle.vehicle_flow.specs.ScheduleChecks.{schedule_fault}
use Rattle.vehicle_flow.specs.VehicleStage.{trips_in, vehicles_faults}
use Rattle.vehicle_flow.proofs.PinnedMakes.{pinned_vehicles_makes, pinned_vehicles_names, pinned_vehicles_right}
use Rattle.vehicle_flow.proofs.PinnedOver.{HaveSameTrips, pinned_over, plain_pinned}
use Rattle.vehicle_flow.proofs.VehicleLaws.{vehicles_are_right}
use Rattle.vehicle_flow.proofs.VehicleMakes.{vehicles_stage_makes, vehicles_stage_names}
use Rattle.stage_chain.specs.Checks.{lacks_file, standing}
use Rattle.stage_chain.specs.Hand.{is_hand, is_hand_file}
use Rattle.stage_chain.specs.Laws.{IsRightOver, bundle_over, files_over}
use Rattle.planning_stages.specs.Places.{in_place, is_pinned}
use Rattle.planning_stages.specs.Planning.{planning, schedule_judged, stage_model}
use Rattle.planning_stages.specs.Rules.{schedule_rule}
use Rattle.planning_stages.specs.Verdicts.{bare_verdict, first_text, judged_found, schedule_verdict}
use Rattle.planning_stages.proofs.ContentFiles.{both_stand, either_stand}
use Rattle.planning_stages.proofs.OneLook.{first_own}
use Rattle.planning_stages.proofs.RolloutLaws.{day_made, trips_accepted}
use Rattle.planning_stages.proofs.StageLaws.{StageLaws, any, fine}

-- ---- where nothing is found

-- a list that is there has a first item
some_first : {X : Type 0} (first : List X) (other : X) → slice_get (or_others first (other ∷ [])) 0 ≡ None
    → ⊥
some_first [] other none = absurd (cc)
some_first (x ∷ first) other none = absurd (cc)

-- a schedule without potentials beside it is found at fault
bare_schedule : (bundle : BundleParts) (text : List ℕ) (faults : List Refusal)
    (broken : Option ScheduleFault) → broken ≡ schedule_fault (trips_in bundle) text None
    → judged_found stage.Vehicles schedule_rule faults broken ≡ None → ⊥
unfolding schedule_fault
bare_schedule bundle text (first ∷ more) broken is none = absurd (cc)
bare_schedule bundle text [] (Some fault) is none = absurd (cc)
bare_schedule bundle text [] None is none = some_first _ rule.Certificate (sym is)

-- one that people give may stand without them
vehicles_stand : (folder : Folder) (bundle : BundleParts) → lacks_file folder stage.Vehicles ≡ false
    → (pinned : Bool) → (schedule_judged pinned).verdict bundle (standing folder stage.Vehicles) ≡ None
    → MakesAs (cond pinned stage.PinnedVehicles stage.Vehicles) (ids_of (standing folder stage.Vehicles))
vehicles_stand folder bundle lacks true none = either_stand folder file.Schedule file.Potential refl lacks
vehicles_stand folder bundle lacks false none =
    both_stand folder file.Schedule file.Potential refl lacks (schedule_verdict bundle)
    (λ text none. bare_schedule bundle text (vehicles_faults bundle) _ refl none) none

-- the files of potentials that may stand there, and the text of the first one
abbrev potential_files : Option (List ℕ) → List MadeFile
potential_files potentials = map (λ text. record { file = file.Potential; text = text }) (option_to_list potentials)

first_potentials : (potentials : Option (List ℕ)) → first_text (potential_files potentials) ≡ potentials
first_potentials None = refl
first_potentials (Some text) = refl

bare_none : (bundle : BundleParts) (there : List MadeFile) → PinnedScheduleIsRight bundle there
    → bare_verdict bundle there ≡ None
bare_none bundle there right =
    rw (right.right.each, right.right.inputs, first_potentials right.right.potentials, right.passes) refl

schedule_none : (bundle : BundleParts) (there : List MadeFile) → VehicleFilesAreRight bundle there
    → schedule_verdict bundle there ≡ None
schedule_none bundle there right = rw (right.right.both, right.right.inputs, right.passes) refl

-- a trip over the events of a day is one that was rolled out
rolled_out : (events : List ExpandedEvent) (trip : Trip) → IsTripOver events trip
    → IsRolledOut events trip
rolled_out events trip over = grind arith

module _ (values : List ℤ) (look : FileId → List ℕ) where
  same_given : HaveSameTrips (bundle_over values look stage.PinnedVehicles) (bundle_over values look stage.Vehicles)
  unfolding stage_keys
  same_given = record { stops = refl; edges = refl; rows = refl; turnover = refl; vehicle = refl; empty = refl }

  -- whoever gives the schedule, it is right over what the plain stage is given
  pub schedule_right_by : (pinned : Bool) (files : List MadeFile)
      → (stage_model (cond pinned stage.PinnedVehicles stage.Vehicles)).IsRight
      (bundle_over values look (cond pinned stage.PinnedVehicles stage.Vehicles)) files
      → PinnedScheduleIsRight (bundle_over values look stage.Vehicles) files
  unfolding stage_model
  schedule_right_by true files right =
      pinned_over (bundle_over values look stage.PinnedVehicles) (bundle_over values look stage.Vehicles) same_given
      files right
  schedule_right_by false files right = plain_pinned (bundle_over values look stage.Vehicles) files right

  vehicles_right : (vehicles : IsRightOver planning values look (in_place values stage.Vehicles))
      → PinnedScheduleIsRight (bundle_over values look stage.Vehicles) (files_over look vehicles.ids)
  unfolding planning
  vehicles_right vehicles =
      schedule_right_by (is_pinned values key.PinVehicles) (files_over look vehicles.ids) vehicles.right

  vehicles_unbroken : (pinned : Bool) (files : List MadeFile)
      → (stage_model (cond pinned stage.PinnedVehicles stage.Vehicles)).IsRight
      (bundle_over values look (cond pinned stage.PinnedVehicles stage.Vehicles)) files
      → (schedule_judged pinned).verdict (bundle_over values look stage.Vehicles) files ≡ None
  unfolding stage_model
  vehicles_unbroken true files right =
      bare_none (bundle_over values look stage.Vehicles) files (schedule_right_by true files right)
  vehicles_unbroken false files right = schedule_none (bundle_over values look stage.Vehicles) files right

  -- the schedule there is accepted over the events of the day
  pub schedule_accepted : IsRightOver planning values look stage.Rollout
      → IsRightOver planning values look (in_place values stage.Vehicles)
      → input_faults (schedule_input (records_of expanded_event_input (look file.EventsX))) (look file.Schedule) ≡ []
  unfolding trips_in trips_of
  schedule_accepted day vehicles =
      let right = vehicles_right vehicles in
      let events = records_of expanded_event_input (look file.EventsX) in
      let own = first_own look file.Schedule vehicles.ids right.right.schedule (potential_files right.right.potentials)
      right.right.each in
      subst (λ text. input_faults (schedule_input events) text ≡ []) own
      (right.accepted events (All-weaker (IsTripOver events) (IsRolledOut events) (rolled_out events)
      (records_of (trip_input None) (look file.Trips)) (day_made values look day).ends_fine))

-- ---- the laws

trips_named : (bundle : BundleParts)
    → AllName any (input_faults (trip_input (Some (stops_of (input_text bundle 0)))) (input_text bundle 2))
trips_named bundle = input_names any (trip_input (Some (stops_of (input_text bundle 0)))) (input_text bundle 2) refl

pub vehicles_laws : StageLaws stage.Vehicles
unfolding planning stage_model is_hand
vehicles_laws = record {
  makes = vehicles_stage_makes;
  right = λ bundle made own fits is. vehicles_are_right bundle own fits made is;
  refuses =
      λ values look reason was is. names_only is_hand_file reason
      (vehicles_stage_names is_hand_file refl refl (bundle_over values look stage.Vehicles) reason
      (fine (trips_accepted values look (was stage.Rollout refl) (was stage.Ean refl))) is);
  names = λ bundle reason is. inr (vehicles_stage_names any refl refl bundle reason (trips_named bundle) is);
  stand = λ values folder bundle lacks none. vehicles_stand folder bundle lacks (is_pinned values key.PinVehicles) none;
  unbroken = λ values look made own. vehicles_unbroken values look (is_pinned values key.PinVehicles) made.files own.1;
}

pub pinned_vehicles_laws : StageLaws stage.PinnedVehicles
unfolding planning stage_model is_hand
pinned_vehicles_laws = record {
  makes = pinned_vehicles_makes;
  right = λ bundle made own fits is. pinned_vehicles_right bundle own fits made is;
  refuses =
      λ values look reason was is. names_only is_hand_file reason
      (pinned_vehicles_names is_hand_file refl refl refl (bundle_over values look stage.PinnedVehicles) reason
      (fine (trips_accepted values look (was stage.Rollout refl) (was stage.Ean refl))) is);
  names = λ bundle reason is. inr (pinned_vehicles_names any refl refl refl bundle reason (trips_named bundle) is);
  stand = λ values folder bundle lacks none. either_stand folder file.Schedule file.Potential refl lacks;
  unbroken = λ values look made own. refl;
}
