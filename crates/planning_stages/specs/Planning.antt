-- The planning stages: what each one is, and the chain of the nine places in which they run.
use Rattle.std.specs.Prelude.{ℕ, ℤ, Bool, true, false, List, Option, None, Result, ⊤}
use Rattle.giv_files.specs.declared.made.Made.{Made}
use Rattle.giv_files.specs.declared.made.MadeFile.{MadeFile}
use Rattle.tables.specs.declared.refusal.Refusal.{Refusal}
use Rattle.giv_files.specs.declared.stage.Stage.{Stage}
use Rattle.giv_files.specs.declared.stage.Stage.TheVariants as stage
use Rattle.giv_files.specs.Settings.{BundleParts}
use Rattle.giv_files.specs.declared.key.Key.TheVariants as key
use Rattle.giv_files.specs.Stages.{places}
use Rattle.demand_load.specs.LoadStage.{load_stage}
use Rattle.demand_load.specs.RightLoads.{LoadFilesAreRight}
use Rattle.line_pool.specs.CostStage.{cost_stage}
use Rattle.line_pool.specs.RightCosts.{CostFilesAreRight}
use Rattle.line_search.specs.ConceptStage.{concept_stage, concept_work}
use Rattle.line_search.specs.PinnedConcepts.{pinned_concept_stage}
use Rattle.line_search.specs.RightConcepts.{ConceptFilesAreRight}
use Rattle.line_search.specs.RightPinned.{ConceptIsRight}
use Rattle.event_activity.specs.EanStage.{ean_stage}
use Rattle.event_activity.specs.RightEan.{EanFilesAreRight}
use Rattle.pesp_search.specs.PinnedTimetables.{pinned_timetable_stage}
use Rattle.pesp_search.specs.RightTimetables.{TimetableFilesAreRight}
use Rattle.pesp_search.specs.TimetableStage.{timetable_stage, timetable_work}
use Rattle.roll_out.specs.RightRollout.{RolloutFilesAreRight}
use Rattle.roll_out.specs.RolloutStage.{rollout_stage}
use Rattle.vehicle_flow.specs.PinnedSchedules.{pinned_vehicles_stage}
use Rattle.vehicle_flow.specs.RightSchedules.{PinnedScheduleIsRight, ScheduleIsRight}
use Rattle.vehicle_flow.specs.RightVehicles.{VehicleFilesAreRight, VehiclesAreRight}
use Rattle.vehicle_flow.specs.VehicleStage.{vehicles_stage}
use Rattle.delay_management.specs.DispositionStage.{disposition_stage}
use Rattle.delay_management.specs.RightDispositions.{DispositionFilesAreRight}
use Rattle.evaluators.specs.RightStatistic.{StatisticFilesAreRight}
use Rattle.evaluators.specs.StatisticStage.{statistic_stage}
use Rattle.stage_chain.specs.declared.finding.Finding.{Finding}
use Rattle.stage_chain.specs.StageParts.{StageParts}
use Rattle.planning_stages.specs.Models.{ConceptPasses, DispositionPasses, TimetablePasses}
use Rattle.planning_stages.specs.Places.{in_place, is_pinned}
use Rattle.planning_stages.specs.Verdicts.{bare_verdict, concept_verdict, content_found}
use Rattle.planning_stages.specs.Verdicts.{disposition_verdict, schedule_verdict, timetable_verdict}

-- What is found of files from any hand in a place, and when such files satisfy its model.
pub record PlaceModel : Type 1 where
  pub verdict : BundleParts → List MadeFile → Option Finding
  pub Satisfies : BundleParts → List MadeFile → Type 0

-- What a stage makes of what it is given, or why it refuses that; how many steps that takes; when its
-- own files are right; and how files are judged, under settings, in the place that has its name.
pub record StageModel : Type 1 where
  pub run : BundleParts → Result Made Refusal
  pub work : BundleParts → ℕ
  pub IsRight : BundleParts → List MadeFile → Type 0
  pub judged : List ℤ → PlaceModel

-- a stage of one step whose files are judged by what it makes
abbrev pub by_content : Stage → (BundleParts → Result Made Refusal)
    → (BundleParts → List MadeFile → Type 0) → StageModel
by_content stage run IsRight = record {
  run = run;
  work = λ bundle. 1;
  IsRight = IsRight;
  judged = λ values. record {
    verdict = λ bundle others. content_found stage (run bundle) others;
    Satisfies = IsRight;
  };
}

-- a stage of one step that takes what people give, and runs in the place of another one: no place has
-- its name, so nothing is judged under that
abbrev pub by_hand : (BundleParts → Result Made Refusal) → (BundleParts → List MadeFile → Type 0)
    → StageModel
by_hand run IsRight = record {
  run = run;
  work = λ bundle. 1;
  IsRight = IsRight;
  judged = λ values. record { verdict = λ bundle others. None; Satisfies = λ bundle others. ⊤ };
}

-- how a vehicle schedule is judged: one that people give needs no certificate
abbrev pub schedule_judged : Bool → PlaceModel
schedule_judged true = record { verdict = bare_verdict; Satisfies = ScheduleIsRight }
schedule_judged false = record { verdict = schedule_verdict; Satisfies = VehiclesAreRight }

-- the stages whose files are judged by rules of their own
abbrev pub concept_model : StageModel
concept_model = record {
  run = concept_stage;
  work = concept_work;
  IsRight = ConceptFilesAreRight;
  judged = λ values. record { verdict = concept_verdict; Satisfies = ConceptPasses };
}

abbrev pub timetable_model : StageModel
timetable_model = record {
  run = timetable_stage;
  work = timetable_work;
  IsRight = TimetableFilesAreRight;
  judged = λ values. record { verdict = timetable_verdict; Satisfies = TimetablePasses };
}

abbrev pub vehicles_model : StageModel
vehicles_model = record {
  run = vehicles_stage;
  work = λ bundle. 1;
  IsRight = VehicleFilesAreRight;
  judged = λ values. schedule_judged (is_pinned values key.PinVehicles);
}

abbrev pub disposition_model : StageModel
disposition_model = record {
  run = disposition_stage;
  work = λ bundle. 1;
  IsRight = DispositionFilesAreRight;
  judged = λ values. record { verdict = disposition_verdict; Satisfies = DispositionPasses };
}

-- the list of the stages
unfoldable pub stage_model : Stage → StageModel
stage_model stage.Load = by_content stage.Load load_stage LoadFilesAreRight
stage_model stage.Cost = by_content stage.Cost cost_stage CostFilesAreRight
stage_model stage.Concept = concept_model
stage_model stage.Ean = by_content stage.Ean ean_stage EanFilesAreRight
stage_model stage.Timetable = timetable_model
stage_model stage.Rollout = by_content stage.Rollout rollout_stage RolloutFilesAreRight
stage_model stage.Vehicles = vehicles_model
stage_model stage.Disposition = disposition_model
stage_model stage.Statistic = by_content stage.Statistic statistic_stage StatisticFilesAreRight
stage_model stage.PinnedConcept = by_hand pinned_concept_stage ConceptIsRight
stage_model stage.PinnedTimetable = by_hand pinned_timetable_stage TimetableFilesAreRight
stage_model stage.PinnedVehicles = by_hand pinned_vehicles_stage PinnedScheduleIsRight

-- the chain of them, in the order of their places
unfoldable pub planning : StageParts
planning = record {
  places = places;
  placed = in_place;
  run = λ bundle. (stage_model bundle.stage).run bundle;
  work = λ bundle. (stage_model bundle.stage).work bundle;
  verdict = λ values bundle. ((stage_model bundle.stage).judged values).verdict bundle;
  IsRight = λ stage. (stage_model stage).IsRight;
  Satisfies = λ values bundle. ((stage_model bundle.stage).judged values).Satisfies bundle;
}
