-- The plans of a folder that passes a check are feasible, and best where certificates stand beside them.
use Rattle.plan_num.proofs.Common.{arith, ◌≡◌, ℤ, Bool, true, false, List, [], ◌∷◌, ◌++◌, take}
use Rattle.plan_num.proofs.Common.{drop, Option, IfSome, IfOk, Result, Ok, subst, sym}
use Rattle.plan_files.proofs.Common.{Folder}
use Rattle.tables.specs.declared.file_id.FileId.TheVariants as file
use Rattle.giv_files.specs.declared.key.Key.TheVariants as key
use Rattle.giv_files.specs.declared.stage.Stage.{Stage}
use Rattle.giv_files.specs.declared.stage.Stage.TheVariants as stage
use Rattle.giv_files.proofs.Common.{BundleParts, places}
use Rattle.vehicle_flow.specs.RightSchedules.{ScheduleIsRight}
use Rattle.vehicle_flow.proofs.PinnedOver.{plain_schedule}
use Rattle.stage_chain.specs.declared.checked.CheckEnd.TheVariants as ends
use Rattle.stage_chain.specs.declared.checked.CheckOutcome.{CheckOutcome}
use Rattle.stage_chain.specs.declared.outcome.ChainFault.{ChainFault}
use Rattle.stage_chain.specs.Chain.{bundle_by}
use Rattle.stage_chain.specs.Checks.{standing}
use Rattle.stage_chain.specs.Laws.{bundle_over}
use Rattle.stage_chain.specs.Passing.{AllStand, RunsStand}
use Rattle.stage_chain.specs.Right.{text_in}
use Rattle.stage_chain.proofs.Looked.{bundle_looked, looked}
use Rattle.planning_stages.specs.Models.{ConceptPasses, DispositionPasses, TimetablePasses}
use Rattle.planning_stages.specs.Places.{is_pinned}
use Rattle.planning_stages.specs.Planning.{planning, schedule_judged, stage_model}
use Rattle.stage_driver.specs.BestPlans.{DispositionIsEarliest, IsMarkedUnlessPinned, PlansAreBest}
use Rattle.stage_driver.specs.FeasiblePlans.{PlansAreFeasible, TimetableIsFeasible}
use Rattle.stage_driver.specs.PlanningChain.{PassesIn}
use Rattle.stage_driver.specs.PlansThere.{is_run_in, is_there}
use Rattle.stage_driver.proofs.PlansStand.{ConceptHolds, ScheduleHolds, concept_holds, disposition_holds}
use Rattle.stage_driver.proofs.PlansStand.{potentials_there, schedule_holds, timetable_holds}

module _ (folder : Folder) (passes : PassesIn folder) where
  abbrev values : List ℤ
  values = passes.values

  -- what a place is given there
  abbrev given_to : Stage → BundleParts
  given_to at = bundle_over values (looked (text_in folder)) at

  -- the place is given that, and its files there satisfy its model over it
  record Stood (at : Stage) : Type 0 where
    pub given : bundle_by (text_in folder) values at ≡ Ok (given_to at)
    pub model : planning.Satisfies values (given_to at) (standing folder at)

  stand_at : (before : List Stage) (at : Stage) (more : List Stage)
      → AllStand planning folder values (before ++ at ∷ more) → RunsStand planning folder values at
  stand_at [] at more all = all.0
  stand_at (one ∷ before) at more all = stand_at before at more all.1

  stood : (at : Stage) → RunsStand planning folder values at → is_run_in folder at ≡ true → Stood at
  stood at run counts = grind (arith, bundle_looked)

  concept_passed : is_run_in folder stage.Concept ≡ true → ConceptHolds folder values passes.settled
  unfolding planning stage_model
  concept_passed counts =
      let stand = stand_at (take 2 places) stage.Concept (drop 3 places) passes.stand in
      let own = stood stage.Concept stand counts in
      let model : ConceptPasses (given_to stage.Concept) (standing folder stage.Concept) = own.model in
      concept_holds folder values passes.settled (given_to stage.Concept) own.given model.inputs model.text model.tree
      model.each model.passes

  times_passed : is_run_in folder stage.Timetable ≡ true → TimetableIsFeasible folder
  unfolding planning stage_model
  times_passed counts =
      let stand = stand_at (take 4 places) stage.Timetable (drop 5 places) passes.stand in
      let own = stood stage.Timetable stand counts in
      let model : TimetablePasses (given_to stage.Timetable) (standing folder stage.Timetable) = own.model in
      timetable_holds folder values passes.settled (given_to stage.Timetable) own.given model.inputs model.text
      model.one model.passes

  vehicles_stood : is_run_in folder stage.Vehicles ≡ true → Stood stage.Vehicles
  unfolding planning
  vehicles_stood counts = grind (arith, stand_at, stood)

  -- what its model says, by whether the schedule is pinned
  vehicles_model : (own : Stood stage.Vehicles)
      → (schedule_judged (is_pinned values key.PinVehicles)).Satisfies (given_to stage.Vehicles)
      (standing folder stage.Vehicles)
  unfolding planning stage_model
  vehicles_model own = own.model

  bare : (pinned : Bool)
      → (schedule_judged pinned).Satisfies (given_to stage.Vehicles) (standing folder stage.Vehicles)
      → ScheduleIsRight (given_to stage.Vehicles) (standing folder stage.Vehicles)
  bare true model = model
  bare false model = plain_schedule (given_to stage.Vehicles) (standing folder stage.Vehicles) model

  schedule_passed : is_run_in folder stage.Vehicles ≡ true → ScheduleHolds folder values passes.settled
  schedule_passed counts =
      let own = vehicles_stood counts in
      schedule_holds folder values passes.settled (given_to stage.Vehicles) own.given
      (bare (is_pinned values key.PinVehicles) (vehicles_model own))

  marked_passed : is_run_in folder stage.Vehicles ≡ true → IsMarkedUnlessPinned folder
  marked_passed counts =
      subst (λ settings. IfOk settings
      (λ values. is_pinned values key.PinVehicles ≡ false → is_there folder file.Potential ≡ true)) (sym passes.settled)
      (λ plain. potentials_there folder values passes.settled (given_to stage.Vehicles)
      (subst (λ pinned. (schedule_judged pinned).Satisfies (given_to stage.Vehicles) (standing folder stage.Vehicles))
      plain (vehicles_model (vehicles_stood counts))))

  disposition_passed : is_run_in folder stage.Disposition ≡ true → DispositionIsEarliest folder
  unfolding planning stage_model
  disposition_passed counts =
      let stand = stand_at (take 7 places) stage.Disposition (drop 8 places) passes.stand in
      let own = stood stage.Disposition stand counts in
      let model : DispositionPasses (given_to stage.Disposition) (standing folder stage.Disposition) = own.model in
      disposition_holds folder values passes.settled (given_to stage.Disposition) own.given model

pub feasible_passed : (folder : Folder) → PassesIn folder → PlansAreFeasible (is_run_in folder) folder
feasible_passed folder passes = record {
  concept = λ stands. (concept_passed folder passes stands.0).feasible;
  timetable = λ stands. times_passed folder passes stands.0;
  schedule = λ stands. (schedule_passed folder passes stands.0).feasible;
}

pub best_passed : (folder : Folder) → PassesIn folder → PlansAreBest (is_run_in folder) folder
best_passed folder passes = record {
  concept = λ stands. (concept_passed folder passes stands.0).cheapest stands.1;
  schedule = λ stands. (schedule_passed folder passes stands.0).cheapest stands.1;
  disposition = λ stands. disposition_passed folder passes stands.0;
  marked = λ stands. marked_passed folder passes stands.0;
}

-- ---- what a call finds

module _ (contents : Option Folder) (result : Result CheckOutcome ChainFault) where
  -- where a check passes, the folder has a property
  abbrev pub WherePassed : (Folder → Type 0) → Type 0
  WherePassed Has =
      IfSome contents (λ folder. IfOk result (λ outcome. outcome.end ≡ ends.Passed → Has folder))

  also_passed : (Has More : Folder → Type 0) → ((folder : Folder) → Has folder → More folder)
      → WherePassed Has → WherePassed More
  also_passed Has More more passed = grind arith

  pub feasible_found : WherePassed PassesIn → WherePassed (λ folder. PlansAreFeasible (is_run_in folder) folder)
  feasible_found passed = grind (arith, also_passed, feasible_passed)

  pub best_found : WherePassed PassesIn → WherePassed (λ folder. PlansAreBest (is_run_in folder) folder)
  best_found passed = also_passed PassesIn (λ folder. PlansAreBest (is_run_in folder) folder) best_passed passed
