-- That the plans which stand in a folder are feasible.
use Rattle.std.specs.Prelude.{Bool}
use Rattle.plan_files.specs.Folder.{Folder}
use Rattle.tables.specs.declared.file_id.FileId.TheVariants as file
use Rattle.giv_files.specs.declared.stage.Stage.{Stage}
use Rattle.giv_files.specs.declared.stage.Stage.TheVariants as stage
use Rattle.line_cost_model.specs.Concepts.{IsFeasible}
use Rattle.line_search.specs.GivenProblems.{problem_of}
use Rattle.pesp.specs.Timetables.{IsTimetable}
use Rattle.pesp_search.specs.TimetableStage.{problem_in}
use Rattle.link_plans.specs.Plans.{IsPlan}
use Rattle.vehicle_model.specs.ReadSchedules.{plan_of}
use Rattle.vehicle_model.specs.Trips.{links_of}
use Rattle.vehicle_flow.specs.VehicleStage.{trips_in}
use Rattle.stage_driver.specs.PlansThere.{ConceptThere, ScheduleThere, Stands, TimetableThere}

-- The concept there keeps the bounds of each edge.
pub record ConceptIsFeasible (folder : Folder) : Type 0 where
  pub there : ConceptThere folder
  pub feasible : IsFeasible (problem_of there.bundle) there.frequencies

-- The timetable there keeps the bounds of each activity.
pub record TimetableIsFeasible (folder : Folder) : Type 0 where
  pub there : TimetableThere folder
  pub feasible : IsTimetable (problem_in there.bundle) there.times

-- The schedule there drives each trip once, and each trip after another one that it may follow.
pub record ScheduleIsFeasible (folder : Folder) : Type 0 where
  pub there : ScheduleThere folder
  pub feasible : IsPlan (links_of (trips_in there.bundle)) (plan_of (trips_in there.bundle) there.text)

-- The plans of a folder are feasible, as far as they stand there and their stages count.
pub record PlansAreFeasible (counts : Stage → Bool) (folder : Folder) : Type 0 where
  pub concept : Stands counts folder stage.Concept file.Concept → ConceptIsFeasible folder
  pub timetable : Stands counts folder stage.Timetable file.TimesP → TimetableIsFeasible folder
  pub schedule : Stands counts folder stage.Vehicles file.Schedule → ScheduleIsFeasible folder
