-- Which files the stage of a planner's schedule makes, which it names where it refuses a row, and what it gives.
use Rattle.plan_num.proofs.Common.{arith, ◌≡◌, List, [], ◌∷◌, map, true, Bool, Some, Result, Ok}
use Rattle.plan_num.proofs.Common.{Err, IfOk, ap}
use Rattle.tables.specs.declared.file_id.FileId.{FileId}
use Rattle.tables.specs.declared.refusal.Refusal.{Refusal}
use Rattle.tables.specs.declared.refusal.StageFault.{StageFault}
use Rattle.tables.proofs.Common.{input_faults, NamesInput, AllName, names_both, front_none}
use Rattle.tables.specs.declared.file_id.FileId.TheVariants as file
use Rattle.giv_files.specs.declared.made.Made.{Made}
use Rattle.giv_files.proofs.Common.{MakesAs, ids_of, BundleParts, Fits, StageGives, input_text}
use Rattle.giv_files.proofs.Common.{none_unless, refused_names}
use Rattle.giv_files.specs.declared.stage.Stage.TheVariants as stage
use Rattle.ptn_network.specs.Networks.{network_faults, stops_of}
use Rattle.ptn_network.proofs.NamedFaults.{network_names}
use Rattle.event_tables.proofs.Common.{trip_input}
use Rattle.vehicle_model.specs.declared.plan_fault.PlanFault.{PlanFault}
use Rattle.vehicle_model.specs.declared.plan_fault.PlanFault.TheVariants as plan_fault
use Rattle.vehicle_model.specs.ReadSchedules.{plan_faults, plan_of}
use Rattle.vehicle_model.specs.Trips.{trips_faults}
use Rattle.vehicle_flow.specs.PinnedSchedules.{marking_potentials, pinned_vehicles_faults}
use Rattle.vehicle_flow.specs.PinnedSchedules.{pinned_vehicles_stage, plan_kept, plan_refusal}
use Rattle.vehicle_flow.specs.RightSchedules.{PinnedScheduleIsRight}
use Rattle.vehicle_flow.specs.VehicleStage.{takes_trips, trips_in, vehicles_faults}
use Rattle.vehicle_flow.proofs.PinnedReads.{pinned_right}
use Rattle.vehicle_flow.proofs.VehicleLaws.{are_trips}

-- they are those that the stage may make: without a mark there are no potentials
pub pinned_vehicles_makes : (bundle : BundleParts) (made : Made) → pinned_vehicles_stage bundle ≡ Ok made
    → MakesAs stage.PinnedVehicles (ids_of made.files)
unfolding pinned_vehicles_stage
pinned_vehicles_makes bundle made is = grind arith

-- each fault of a plan names the file of the planner's schedule
plan_names : (test : FileId → Bool) → test file.PinnedSchedule ≡ true → (all : List PlanFault)
    → AllName test (map plan_refusal all)
plan_names test is [] = tt
plan_names test is (plan_fault.Row first ∷ more) = (is, plan_names test is more)
plan_names test is (plan_fault.Trips row ∷ more) = (is, plan_names test is more)
plan_names test is (plan_fault.Follow trip ∷ more) = (is, plan_names test is more)
plan_names test is (plan_fault.NoMemory ∷ more) = (is, plan_names test is more)

-- a refusal by a row names the file of stops, that of edges, that of the planner's schedule, or what the
-- faults of the trips do
pub pinned_vehicles_names : (test : FileId → Bool) → test file.Stop ≡ true → test file.Edge ≡ true
    → test file.PinnedSchedule ≡ true → (bundle : BundleParts) (reason : Refusal)
    → AllName test (input_faults (trip_input (Some (stops_of (input_text bundle 0)))) (input_text bundle 2))
    → pinned_vehicles_stage bundle ≡ Err reason → NamesInput test reason
unfolding pinned_vehicles_stage trips_faults
pinned_vehicles_names test stop edge schedule bundle reason named is =
    let trips = trips_in bundle in
    let plan = plan_of trips (input_text bundle 3) in
    let potentials = marking_potentials trips plan (input_text bundle 4) in
    refused_names test (pinned_vehicles_faults bundle) (plan_kept trips plan potentials) reason
    (names_both test (vehicles_faults bundle) (map plan_refusal (plan_faults trips (input_text bundle 3)))
    (names_both test (network_faults (input_text bundle 0) (input_text bundle 1))
    (input_faults (trip_input (Some (stops_of (input_text bundle 0)))) (input_text bundle 2))
    (network_names test stop edge (input_text bundle 0) (input_text bundle 1))
    named)
    (plan_names test schedule (plan_faults trips (input_text bundle 3)))) is

module _ (bundle : BundleParts) (own : bundle.stage ≡ stage.PinnedVehicles) (fits : Fits bundle) where
  none_there : (made : Made) → pinned_vehicles_stage bundle ≡ Ok made → vehicles_faults bundle ≡ []
  unfolding pinned_vehicles_stage
  none_there made is = grind (arith, front_none, none_unless)

  -- the law of the stage: what it makes is right
  pub pinned_vehicles_right : (made : Made) → pinned_vehicles_stage bundle ≡ Ok made
      → PinnedScheduleIsRight bundle made.files
  pinned_vehicles_right made is =
      pinned_right bundle made (are_trips bundle (ap takes_trips own) fits (none_there made is)) is

  -- what a call gives that meets the stage
  pub pinned_given : (result : Result Made StageFault) → StageGives (pinned_vehicles_stage bundle) result
      → IfOk result (λ made. PinnedScheduleIsRight bundle made.files)
  pinned_given (Ok made) given = pinned_vehicles_right made given
  pinned_given (Err fault) given = tt
