-- The stage of vehicles: the schedule of the chosen plan, and its canonical potentials.
use Rattle.std.specs.Prelude.{ℕ, pos, Bool, true, false, List, [], ◌∷◌, ◌++◌, length, codes, Option, Result}
use Rattle.plan_num.specs.Print.{fixed_text}
use Rattle.tables.specs.declared.file_id.FileId.TheVariants as file
use Rattle.giv_files.specs.declared.key.Key.TheVariants as key
use Rattle.giv_files.specs.declared.made.Made.{Made}
use Rattle.tables.specs.declared.refusal.Refusal.{Refusal}
use Rattle.giv_files.specs.declared.stage.Stage.{Stage}
use Rattle.giv_files.specs.declared.stage.Stage.TheVariants as stage
use Rattle.giv_files.specs.ReportLines.{count_text, report_line}
use Rattle.giv_files.specs.Settings.{BundleParts, amount}
use Rattle.giv_files.specs.StageCalls.{input_text, unless_fault}
use Rattle.vehicle_model.specs.Trips.{TripsParts, trips_of, trips_faults, links_of}
use Rattle.vehicle_model.specs.Plans.{starts, plan_cost, chosen_plan}
use Rattle.vehicle_model.specs.Schedules.{plan_text}
use Rattle.flow_potentials.specs.PotentialTables.{potentials_text}
use Rattle.canonical_potentials.specs.Rounds.{canonical}

-- a stage takes the texts of stops, of edges and of trips before all others, and the settings of trips
abbrev pub takes_trips : Stage → Bool
takes_trips stage.Vehicles = true
takes_trips stage.PinnedVehicles = true
takes_trips _ = false

-- the trips of a bundle, whose inputs are the texts of stops, of edges and of trips
unfoldable pub trips_in : BundleParts → TripsParts
trips_in bundle =
    trips_of (input_text bundle 0) (input_text bundle 1) (input_text bundle 2)
    (amount bundle.settings key.VsTurnOverTime) (amount bundle.settings key.VsVehicleCosts)
    (amount bundle.settings key.VsEmptyCosts)

-- every fault of a bundle, in the order of its inputs
abbrev pub vehicles_faults : BundleParts → List Refusal
vehicles_faults bundle =
    trips_faults (input_text bundle 0) (input_text bundle 1) (input_text bundle 2)

-- the line of the report: the vehicles of a plan, and what it costs
abbrev pub vehicles_line : TripsParts → List (Option ℕ) → List ℕ
vehicles_line trips plan =
    report_line stage.Vehicles (count_text (length (starts plan)) (codes "vehicles")
    ∷ (codes "cost " ++ fixed_text (pos (plan_cost trips plan)))
    ∷ codes "optimal" ∷ [])

-- what is made of a plan: its schedule, its canonical potentials, and the line of the report
abbrev pub vehicles_made : TripsParts → List (Option ℕ) → Made
vehicles_made trips plan = record {
  files = record { file = file.Schedule; text = plan_text trips plan }
      ∷ record { file = file.Potential; text = potentials_text (canonical (links_of trips) plan) }
      ∷ [];
  report = vehicles_line trips plan;
}

-- the stage: from settings and input texts to what is made, or the first fault
unfoldable pub vehicles_stage : BundleParts → Result Made Refusal
vehicles_stage bundle =
    unless_fault (vehicles_faults bundle)
    (vehicles_made (trips_in bundle) (chosen_plan (trips_in bundle)))
