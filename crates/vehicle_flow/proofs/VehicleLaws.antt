-- What the stage of vehicles makes of a bundle that fits it is right.
use Rattle.plan_num.proofs.Common.{◌≡◌, true, [], Some, Result, Ok, Err, IfOk, ap}
use Rattle.giv_files.specs.declared.made.Made.{Made}
use Rattle.giv_files.proofs.Common.{BundleParts, Fits, StageGives, input_text, none_unless}
use Rattle.tables.specs.declared.refusal.StageFault.{StageFault}
use Rattle.tables.proofs.Common.{input_faults, back_none, front_none}
use Rattle.giv_files.specs.declared.stage.Stage.TheVariants as stage
use Rattle.ptn_network.specs.Networks.{network_faults, network_of, stops_of}
use Rattle.ptn_network.proofs.Sound.{network_sound}
use Rattle.event_tables.proofs.Common.{trip_input, trips_sound}
use Rattle.vehicle_model.specs.Plans.{chosen_plan}
use Rattle.vehicle_model.specs.Trips.{AreTrips, trips_faults, trips_of}
use Rattle.vehicle_flow.specs.RightVehicles.{VehicleFilesAreRight}
use Rattle.vehicle_flow.specs.VehicleStage.{takes_trips, trips_in, vehicles_faults, vehicles_made, vehicles_stage}
use Rattle.vehicle_flow.proofs.GivenTrips.{empty_few, turnover_few, vehicle_few}
use Rattle.vehicle_flow.proofs.SettledThere.{settled_there}
use Rattle.vehicle_flow.proofs.VehicleReads.{vehicles_right}

-- the trips of a bundle of a stage that takes them are some, where their texts have no fault
pub are_trips : (bundle : BundleParts) → takes_trips bundle.stage ≡ true → Fits bundle
    → vehicles_faults bundle ≡ [] → AreTrips (trips_in bundle)
unfolding trips_in trips_of trips_faults network_of
are_trips bundle own fits none =
    let stops = input_text bundle 0 in
    let edges = input_text bundle 1 in
    let trips = input_text bundle 2 in
    record {
      network = network_sound stops edges (front_none (network_faults stops edges)
          (input_faults (trip_input (Some (stops_of stops))) trips) none);
      rows = trips_sound (Some (stops_of stops)) trips (back_none (network_faults stops edges)
          (input_faults (trip_input (Some (stops_of stops))) trips) none);
      short_turnover = turnover_few bundle own fits;
      cheap_vehicle = vehicle_few bundle own fits;
      cheap_minutes = empty_few bundle own fits;
    }

module _ (bundle : BundleParts) (own : bundle.stage ≡ stage.Vehicles) (fits : Fits bundle) where
  none_there : (made : Made) → vehicles_stage bundle ≡ Ok made → vehicles_faults bundle ≡ []
  unfolding vehicles_stage
  none_there made is = none_unless (vehicles_faults bundle)
      (vehicles_made (trips_in bundle) (chosen_plan (trips_in bundle))) made is

  -- the law of the stage: what it makes is right
  pub vehicles_are_right : (made : Made) → vehicles_stage bundle ≡ Ok made
      → VehicleFilesAreRight bundle made.files
  vehicles_are_right made is =
      vehicles_right bundle made
      (settled_there (trips_in bundle) (are_trips bundle (ap takes_trips own) fits (none_there made is))) is

  -- what a call gives that meets the stage
  pub right_given : (result : Result Made StageFault) → StageGives (vehicles_stage bundle) result
      → IfOk result (λ made. VehicleFilesAreRight bundle made.files)
  right_given (Ok made) given = vehicles_are_right made given
  right_given (Err fault) given = tt
