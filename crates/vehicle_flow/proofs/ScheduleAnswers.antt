-- What the test of a schedule answers, over a bundle.
use Rattle.plan_num.proofs.Common.{arith, ◌≡◌, ℕ, List, [], map, Option, Some, None, refl, ap}
use Rattle.giv_files.specs.declared.made.MadeFile.{MadeFile}
use Rattle.giv_files.proofs.Common.{BundleParts}
use Rattle.vehicle_model.specs.Trips.{TripsParts}
use Rattle.vehicle_flow.specs.RightVehicles.{VehiclesAreRight, files_of}
use Rattle.vehicle_flow.specs.ScheduleChecks.{schedule_fault, Passes}
use Rattle.vehicle_flow.specs.VehicleStage.{trips_in, vehicles_faults}
use Rattle.vehicle_flow.proofs.FirstRules.{passes_none}

module _ (bundle : BundleParts) (none : vehicles_faults bundle ≡ []) (schedule : List ℕ) where
  passed_right : (potentials : Option (List ℕ)) → Passes (trips_in bundle) schedule potentials
      → VehiclesAreRight bundle (files_of schedule potentials)
  passed_right None passes = elim passes.marked [ ]
  passed_right (Some text) passes = record {
    inputs = none;
    schedule = schedule;
    potentials = text;
    both = refl;
    passes = passes;
  }

-- the texts of the first two files
abbrev texts : List MadeFile → List (List ℕ)
texts files = map (λ file. file.text) files

passed_where : (trips : TripsParts) (schedule other text : List ℕ) (potentials : Option (List ℕ))
    → texts (files_of schedule potentials) ≡ texts (files_of other (Some text))
    → Passes trips other (Some text) → Passes trips schedule potentials
passed_where trips schedule other text None same passes = absurd (cc)
passed_where trips schedule other text (Some own) same passes =
    let first : schedule ≡ other = cc in grind arith

-- what is right breaks no rule
pub none_where : (bundle : BundleParts) (schedule : List ℕ) (potentials : Option (List ℕ))
    → VehiclesAreRight bundle (files_of schedule potentials)
    → schedule_fault (trips_in bundle) schedule potentials ≡ None
none_where bundle schedule potentials right =
    passes_none (trips_in bundle) schedule potentials
    (passed_where (trips_in bundle) schedule right.schedule right.potentials potentials
    (ap texts right.both) right.passes)
