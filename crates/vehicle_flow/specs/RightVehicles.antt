-- What is right about a vehicle schedule and its potentials.
use Rattle.std.specs.Prelude.{ℕ, ◌≡◌, List, [], ◌∷◌, map, Option, Some, None, option_to_list}
use Rattle.tables.specs.declared.file_id.FileId.TheVariants as file
use Rattle.giv_files.specs.declared.made.Made.{Made}
use Rattle.giv_files.specs.declared.made.MadeFile.{MadeFile}
use Rattle.giv_files.specs.Settings.{BundleParts}
use Rattle.vehicle_model.specs.Plans.{IsChosen}
use Rattle.vehicle_model.specs.ReadSchedules.{plan_of}
use Rattle.vehicle_model.specs.Trips.{links_of}
use Rattle.canonical_potentials.specs.Canonical.{AreCanonical}
use Rattle.flow_potentials.specs.PotentialTables.{potentials_of}
use Rattle.vehicle_flow.specs.AcceptedSchedules.{IsAccepted}
use Rattle.vehicle_flow.specs.ScheduleChecks.{Passes, schedule_fault}
use Rattle.vehicle_flow.specs.VehicleStage.{trips_in, vehicles_faults}

-- the files of a schedule, and of potentials where they are there
abbrev pub files_of : List ℕ → Option (List ℕ) → List MadeFile
files_of schedule potentials = record { file = file.Schedule; text = schedule }
    ∷ map (λ text. record { file = file.Potential; text = text }) (option_to_list potentials)

-- The files of a vehicle schedule are right, whoever made them: the inputs have no fault, and there
-- are two files. Read again, the first one has a plan of the trips, and the second one potentials that
-- are valid for it, so no plan costs less.
pub record VehiclesAreRight (bundle : BundleParts) (files : List MadeFile) : Type 0 where
  pub inputs : vehicles_faults bundle ≡ []
  pub schedule : List ℕ
  pub potentials : List ℕ
  pub both : files ≡ files_of schedule (Some potentials)
  pub passes : Passes (trips_in bundle) schedule (Some potentials)

-- The files that are made are more: the plan is the chosen one, so among those of least cost its list
-- of successors comes first, and the potentials are its canonical ones. The two break no rule of a
-- schedule from any hand, and the first one has no fault by the rules of its kind.
pub record VehicleFilesAreRight (bundle : BundleParts) (files : List MadeFile) : Type 0 where
  pub right : VehiclesAreRight bundle files
  pub chosen : IsChosen (trips_in bundle) (plan_of (trips_in bundle) right.schedule)
  pub canonical : AreCanonical (links_of (trips_in bundle))
      (plan_of (trips_in bundle) right.schedule) (potentials_of right.potentials)
  pub passes : schedule_fault (trips_in bundle) right.schedule (Some right.potentials) ≡ None
  pub accepted : IsAccepted (trips_in bundle).trips right.schedule

-- what is made is right
abbrev pub VehiclesAreMadeRight : BundleParts → Made → Type 0
VehiclesAreMadeRight bundle made = VehicleFilesAreRight bundle made.files
