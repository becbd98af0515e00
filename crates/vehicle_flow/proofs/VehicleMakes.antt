-- Which files the stage of vehicles makes, which it names where it refuses a row, and what it gives.
use Rattle.plan_num.proofs.Common.{◌≡◌, [], true, Bool, Some, Ok, Err, ap, lit<, arith}
use Rattle.tables.specs.declared.file_id.FileId.{FileId}
use Rattle.tables.specs.declared.refusal.Refusal.{Refusal}
use Rattle.tables.specs.declared.refusal.StageFault.{StageFault}
use Rattle.tables.proofs.Common.{Refuses, input_faults, NamesInput, AllName, names_both}
use Rattle.tables.specs.declared.file_id.FileId.TheVariants as file
use Rattle.giv_files.specs.declared.made.Made.{Made}
use Rattle.giv_files.proofs.Common.{MakesAs, ids_of, BundleParts, StageGives, input_text}
use Rattle.giv_files.proofs.Common.{refused_names, made_unless, stage_refused}
use Rattle.giv_files.specs.declared.stage.Stage.TheVariants as stage
use Rattle.ptn_network.specs.Networks.{network_faults, stops_of}
use Rattle.ptn_network.proofs.NamedFaults.{network_names}
use Rattle.event_tables.proofs.Common.{trip_input}
use Rattle.vehicle_model.specs.Plans.{chosen_plan}
use Rattle.vehicle_model.specs.Trips.{TripsParts, trips_faults}
use Rattle.vehicle_flow.specs.VehicleStage.{trips_in, vehicles_faults, vehicles_made, vehicles_stage}

-- they are those that the stage is to make
pub vehicles_stage_makes : (bundle : BundleParts) (made : Made) → vehicles_stage bundle ≡ Ok made
    → MakesAs stage.Vehicles (ids_of made.files)
unfolding vehicles_stage
vehicles_stage_makes bundle made is =
    (0, lit< tt, ap (λ (made : Made). ids_of made.files) (made_unless _ _ made is))

-- a refusal by a row names the file of stops, that of edges, or what the faults of the trips do
pub vehicles_stage_names : (test : FileId → Bool) → test file.Stop ≡ true → test file.Edge ≡ true
    → (bundle : BundleParts) (reason : Refusal)
    → AllName test (input_faults (trip_input (Some (stops_of (input_text bundle 0)))) (input_text bundle 2))
    → vehicles_stage bundle ≡ Err reason → NamesInput test reason
unfolding vehicles_stage trips_faults
vehicles_stage_names test stop edge bundle reason trips is =
    refused_names test (vehicles_faults bundle) _ reason
    (names_both test (network_faults (input_text bundle 0) (input_text bundle 1))
    (input_faults (trip_input (Some (stops_of (input_text bundle 0)))) (input_text bundle 2))
    (network_names test stop edge (input_text bundle 0) (input_text bundle 1))
    trips) is

-- ---- what the call gives

module _ (bundle : BundleParts) where
  pub trips_refused : (fault : StageFault) → Refuses (vehicles_faults bundle) fault
      → StageGives (vehicles_stage bundle) (Err fault)
  unfolding vehicles_stage
  trips_refused fault h = stage_refused (vehicles_faults bundle) _ fault h

  pub vehicles_given : (trips : TripsParts) (made : Made) → vehicles_faults bundle ≡ []
      → trips ≡ trips_in bundle → made ≡ vehicles_made trips (chosen_plan trips)
      → StageGives (vehicles_stage bundle) (Ok made)
  unfolding vehicles_stage
  vehicles_given trips made none is given = grind arith
