-- The stage of a vehicle schedule that a planner gives.
use Rattle.std.specs.Prelude.{ℕ, pos, List, [], ◌∷◌, ◌++◌, length, map, codes, Option, Some, None, Result}
use Rattle.plan_num.specs.Print.{fixed_text}
use Rattle.tables.specs.declared.file_id.FileId.TheVariants as file
use Rattle.giv_files.specs.declared.made.Made.{Made}
use Rattle.giv_files.specs.declared.made.MadeFile.{MadeFile}
use Rattle.tables.specs.declared.refusal.Refusal.{Refusal}
use Rattle.tables.specs.declared.refusal.Refusal.TheVariants as refusal
use Rattle.tables.specs.declared.refusal.StageFault.{StageFault}
use Rattle.tables.specs.declared.refusal.StageFault.TheVariants as stage_fault
use Rattle.tables.specs.declared.row_why.RowWhy.{RowWhy}
use Rattle.tables.specs.declared.row_why.RowWhy.TheVariants as why
use Rattle.giv_files.specs.declared.stage.Stage.TheVariants as stage
use Rattle.giv_files.specs.ReportLines.{count_text, report_line}
use Rattle.giv_files.specs.Settings.{BundleParts}
use Rattle.giv_files.specs.StageCalls.{input_text, unless_fault}
use Rattle.vehicle_model.specs.declared.plan_fault.PlanFault.{PlanFault}
use Rattle.vehicle_model.specs.declared.plan_fault.PlanFault.TheVariants as plan
use Rattle.vehicle_model.specs.Plans.{starts, plan_cost}
use Rattle.vehicle_model.specs.ReadSchedules.{plan_faults, plan_of}
use Rattle.vehicle_model.specs.Schedules.{plan_text}
use Rattle.vehicle_model.specs.Trips.{TripsParts}
use Rattle.link_plans.specs.Potentials.{PotentialParts}
use Rattle.flow_potentials.specs.PotentialTables.{potentials_of, potentials_text}
use Rattle.vehicle_flow.specs.declared.schedule_fault.ScheduleFault.{ScheduleFault}
use Rattle.vehicle_flow.specs.ScheduleChecks.{certificate_rules}
use Rattle.vehicle_flow.specs.VehicleStage.{trips_in, vehicles_faults}

-- the refusal of a fault of the plan: that of a cell, of a row, or that a trip may not follow the one before it; no
-- text is at fault for want of memory
abbrev pub plan_refusal : PlanFault → Refusal
plan_refusal (plan.Row first) = refusal.BadRow file.PinnedSchedule first.row first.why
plan_refusal (plan.Trips row) = refusal.BadRow file.PinnedSchedule row why.TripsDiffer
plan_refusal _ = refusal.BadRow file.PinnedSchedule 0 why.CannotFollow

-- a row of the schedule is refused
abbrev pub refused_row : ℕ → RowWhy → StageFault
refused_row row why = stage_fault.Refused (refusal.BadRow file.PinnedSchedule row why)

-- what a fault of the plan is as one of the stage; want of memory refuses nothing
abbrev pub refused_as : PlanFault → StageFault
refused_as plan.NoMemory = stage_fault.NoMemory
refused_as fault = stage_fault.Refused (plan_refusal fault)

-- every fault of a bundle, in the order of its inputs; the text of the potentials has none
abbrev pub pinned_vehicles_faults : BundleParts → List Refusal
pinned_vehicles_faults bundle =
    vehicles_faults bundle ++ map plan_refusal (plan_faults (trips_in bundle) (input_text bundle 3))

-- the potentials of a text, where no rule of a certificate is broken
abbrev pub unless_broken : List ScheduleFault → PotentialParts → Option PotentialParts
unless_broken [] potentials = Some potentials
unless_broken (first ∷ more) potentials = None

abbrev pub marking_potentials : TripsParts → List (Option ℕ) → List ℕ → Option PotentialParts
marking_potentials trips plan text = unless_broken (certificate_rules trips plan (Some text)) (potentials_of text)

-- the file of potentials and the word of a report, where there are some
abbrev pub potential_files : Option PotentialParts → List MadeFile
potential_files None = []
potential_files (Some potentials) = record { file = file.Potential; text = potentials_text potentials } ∷ []

abbrev pub mark_text : Option PotentialParts → List ℕ
mark_text None = codes "not proved optimal"
mark_text (Some potentials) = codes "optimal"

-- what is made of a plan and potentials: both are written anew
abbrev pub plan_kept : TripsParts → List (Option ℕ) → Option PotentialParts → Made
plan_kept trips plan potentials = record {
  files = record { file = file.Schedule; text = plan_text trips plan } ∷ potential_files potentials;
  report = report_line stage.Vehicles (count_text (length (starts plan)) (codes "vehicles")
      ∷ (codes "cost " ++ fixed_text (pos (plan_cost trips plan))) ∷ mark_text potentials ∷ codes "pinned" ∷ []);
}

-- the stage
unfoldable pub pinned_vehicles_stage : BundleParts → Result Made Refusal
pinned_vehicles_stage bundle =
    let trips = trips_in bundle in
    let plan = plan_of trips (input_text bundle 3) in
    unless_fault (pinned_vehicles_faults bundle)
    (plan_kept trips plan (marking_potentials trips plan (input_text bundle 4)))
