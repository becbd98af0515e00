-- What is right about a vehicle schedule, whether potentials stand beside it or not.
use Rattle.std.specs.Prelude.{ℕ, ◌≡◌, List, [], Option, Some, None, IfSome}
use Rattle.giv_files.specs.declared.made.MadeFile.{MadeFile}
use Rattle.giv_files.specs.Settings.{BundleParts}
use Rattle.link_plans.specs.Plans.{IsPlan}
use Rattle.vehicle_model.specs.ReadSchedules.{plan_faults, plan_of}
use Rattle.vehicle_model.specs.Trips.{TripsParts, links_of}
use Rattle.vehicle_flow.specs.declared.schedule_fault.ScheduleFault.{ScheduleFault}
use Rattle.vehicle_flow.specs.declared.schedule_fault.ScheduleFault.TheVariants as rule
use Rattle.vehicle_flow.specs.AcceptedSchedules.{IsAccepted}
use Rattle.vehicle_flow.specs.RightVehicles.{files_of}
use Rattle.vehicle_flow.specs.ScheduleChecks.{schedule_fault, IsMark}
use Rattle.vehicle_flow.specs.VehicleStage.{trips_in, vehicles_faults}

-- The files of a schedule are right, whoever made them: the inputs have no fault, and the first file has a plan of
-- the trips. Where a second one stands beside it, its potentials are valid for the plan, so no plan costs less.
pub record ScheduleIsRight (bundle : BundleParts) (files : List MadeFile) : Type 0 where
  pub inputs : vehicles_faults bundle ≡ []
  pub schedule : List ℕ
  pub potentials : Option (List ℕ)
  pub each : files ≡ files_of schedule potentials
  pub reads : plan_faults (trips_in bundle) schedule ≡ []
  pub possible : IsPlan (links_of (trips_in bundle)) (plan_of (trips_in bundle) schedule)
  pub marked : IfSome potentials (IsMark (trips_in bundle) (plan_of (trips_in bundle) schedule))

-- a rule that speaks though no potentials need stand there
abbrev pub passed_over : Option ScheduleFault → Option ScheduleFault
passed_over (Some rule.Certificate) = None
passed_over found = found

-- a schedule breaks no rule but that of a certificate: its text is that of a plan, and where potentials stand
-- beside it they mark it
abbrev pub PassesOver : TripsParts → List ℕ → Option (List ℕ) → Type 0
PassesOver trips schedule potentials =
    (plan_faults trips schedule ≡ []) × IsPlan (links_of trips) (plan_of trips schedule)
    × IfSome potentials (IsMark trips (plan_of trips schedule))

-- The files that are made of a schedule from a planner's hand: besides, they break no other rule than that of a
-- certificate, and the first one has no fault by the rules of its kind.
pub record PinnedScheduleIsRight (bundle : BundleParts) (files : List MadeFile) : Type 0 where
  pub right : ScheduleIsRight bundle files
  pub passes : passed_over (schedule_fault (trips_in bundle) right.schedule right.potentials) ≡ None
  pub accepted : IsAccepted (trips_in bundle).trips right.schedule
