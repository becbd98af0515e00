-- That no plan is better than those which stand in a folder with their certificates.
use Rattle.std.specs.Prelude.{◌≡◌, ◌≤◌, ℕ, Bool, true, false, List, Option, IfOk}
use Rattle.plan_files.specs.Folder.{Folder}
use Rattle.tables.specs.declared.file_id.FileId.TheVariants as file
use Rattle.giv_files.specs.declared.key.Key.TheVariants as key
use Rattle.giv_files.specs.declared.stage.Stage.{Stage}
use Rattle.giv_files.specs.declared.stage.Stage.TheVariants as stage
use Rattle.config_keys.specs.Items.{look_in}
use Rattle.config_keys.specs.Values.{effective}
use Rattle.line_cost_model.specs.Concepts.{IsFeasible, cost_of}
use Rattle.line_search.specs.GivenProblems.{problem_of}
use Rattle.vehicle_model.specs.Plans.{plan_cost}
use Rattle.link_plans.specs.Plans.{IsPlan}
use Rattle.vehicle_model.specs.ReadSchedules.{plan_of}
use Rattle.vehicle_model.specs.Trips.{links_of}
use Rattle.vehicle_flow.specs.VehicleStage.{trips_in}
use Rattle.delay_management.specs.DispositionStage.{problem_in}
use Rattle.propagation.specs.Waiting.{IsDisposition}
use Rattle.delay_management.specs.WaitSettings.{wait_of}
use Rattle.planning_stages.specs.Places.{is_pinned}
use Rattle.stage_driver.specs.FeasiblePlans.{ConceptIsFeasible, ScheduleIsFeasible}
use Rattle.stage_driver.specs.PlansThere.{DispositionThere, Stands, is_there}

-- No feasible concept costs less than the one there.
pub record ConceptIsCheapest (folder : Folder) : Type 0 where
  pub own : ConceptIsFeasible folder
  pub cheapest : (other : List ℕ) → IsFeasible (problem_of own.there.bundle) other
      → cost_of (problem_of own.there.bundle) own.there.frequencies
      ≤ cost_of (problem_of own.there.bundle) other

-- No plan of the trips costs less than the schedule there.
pub record ScheduleIsCheapest (folder : Folder) : Type 0 where
  pub own : ScheduleIsFeasible folder
  pub cheapest : (other : List (Option ℕ)) → IsPlan (links_of (trips_in own.there.bundle)) other
      → plan_cost (trips_in own.there.bundle) (plan_of (trips_in own.there.bundle) own.there.text)
      ≤ plan_cost (trips_in own.there.bundle) other

-- The times there are feasible where those changes are kept that wait, and no such times are earlier
-- at any event.
pub record DispositionIsEarliest (folder : Folder) : Type 0 where
  pub there : DispositionThere folder
  pub earliest : IsDisposition (problem_in there.bundle) (wait_of there.bundle.settings) there.times

-- Where the settings of a folder pin no vehicle schedule, potentials stand there.
abbrev pub IsMarkedUnlessPinned : Folder → Type 0
IsMarkedUnlessPinned folder =
    IfOk (effective (look_in folder)) (λ values. is_pinned values key.PinVehicles ≡ false
    → is_there folder file.Potential ≡ true)

-- No plan is better than those of a folder, as far as they stand there and their stages count. Where a
-- tree stands beside the concept, no feasible concept costs less. Where potentials stand beside the
-- schedule, no plan of the trips costs less. No event of the disposition can be earlier. And a schedule
-- has potentials, unless a person pinned it.
pub record PlansAreBest (counts : Stage → Bool) (folder : Folder) : Type 0 where
  pub concept : Stands counts folder stage.Concept file.Tree → ConceptIsCheapest folder
  pub schedule : Stands counts folder stage.Vehicles file.Potential → ScheduleIsCheapest folder
  pub disposition : Stands counts folder stage.Disposition file.Disposed
      → DispositionIsEarliest folder
  pub marked : Stands counts folder stage.Vehicles file.Schedule → IsMarkedUnlessPinned folder
