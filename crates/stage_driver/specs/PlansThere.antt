-- The plans that stand in a folder: what their texts say, over the files that stand there.
use Rattle.std.specs.Prelude.{◌≡◌, ℕ, ℤ, Bool, true, false, is_some, List, [], length, Some, Ok}
use Rattle.std.specs.Prelude.{Result, Err}
use Rattle.std.specs.FinMap as files
use Rattle.plan_files.specs.Folder.{Folder}
use Rattle.tables.specs.declared.file_id.FileId.{FileId}
use Rattle.tables.specs.declared.file_id.FileId.TheVariants as file
use Rattle.giv_files.specs.declared.stage.Stage.{Stage}
use Rattle.giv_files.specs.declared.stage.Stage.TheVariants as stage
use Rattle.tables.specs.Columns.{concept_columns, disposed_columns, times_p_columns}
use Rattle.tables.specs.FileNames.{file_name}
use Rattle.tables.specs.RowsOfTables.{ReadsAs}
use Rattle.giv_files.specs.Settings.{BundleParts}
use Rattle.tables.specs.Writing.{ReadsBack}
use Rattle.config_keys.specs.declared.config_fault.ConfigFault.{ConfigFault}
use Rattle.config_keys.specs.Items.{look_in}
use Rattle.config_keys.specs.Values.{effective}
use Rattle.event_tables.specs.Cells.{disposed_time, periodic_time}
use Rattle.line_search.specs.ConceptTables.{concept_rows}
use Rattle.line_search.specs.GivenProblems.{problem_faults, problem_of}
use Rattle.pesp_search.specs.TimetableStage.{problem_in, time_rows, timetable_faults}
use Rattle.vehicle_model.specs.DrivenSchedules.{IsPlanOf, IsTextOf, MayDrive}
use Rattle.vehicle_model.specs.ReadSchedules.{plan_of}
use Rattle.vehicle_flow.specs.VehicleStage.{trips_in, vehicles_faults}
use Rattle.delay_management.specs.DispositionStage.{disposition_faults, problem_in as day_in}
use Rattle.delay_management.specs.DispositionStage.{time_rows as disposed_rows}
use Rattle.stage_chain.specs.Chain.{bundle_by, is_to_run}
use Rattle.stage_chain.specs.Right.{text_in}

-- a file stands in a folder
abbrev pub is_there : Folder → FileId → Bool
is_there folder file = is_some (files.get folder (file_name file))

-- which stages count: each one, or those that are to run under the settings of a folder
abbrev pub each_stage : Stage → Bool
each_stage stage = true

abbrev pub is_run_under : Result (List ℤ) ConfigFault → Stage → Bool
is_run_under (Ok values) stage = is_to_run values stage
is_run_under (Err reason) stage = false

abbrev pub is_run_in : Folder → Stage → Bool
is_run_in folder stage = is_run_under (effective (look_in folder)) stage

-- a file of a stage that counts stands in a folder
abbrev pub Stands : (Stage → Bool) → Folder → Stage → FileId → Type 0
Stands counts folder stage file = (counts stage ≡ true) × (is_there folder file ≡ true)

-- what a stage is given in a folder: the settings there, and the texts of its inputs there
pub record IsGiven (folder : Folder) (stage : Stage) (bundle : BundleParts) : Type 0 where
  pub values : List ℤ
  pub settled : effective (look_in folder) ≡ Ok values
  pub given : bundle_by (text_in folder) values stage ≡ Ok bundle

-- The line concept there: inputs without a fault, and for each line of their problem a frequency.
pub record ConceptThere (folder : Folder) : Type 0 where
  pub bundle : BundleParts
  pub given : IsGiven folder stage.Concept bundle
  pub faultless : problem_faults bundle ≡ []
  pub text : List ℕ
  pub stands : files.get folder (file_name file.Concept) ≡ Some text
  pub frequencies : List ℕ
  pub each : length frequencies ≡ length (problem_of bundle).lines
  pub reads : ReadsBack concept_columns (concept_rows (problem_of bundle) frequencies) text

-- The timetable there: inputs without a fault, and a time for each event.
pub record TimetableThere (folder : Folder) : Type 0 where
  pub bundle : BundleParts
  pub given : IsGiven folder stage.Timetable bundle
  pub faultless : timetable_faults bundle ≡ []
  pub text : List ℕ
  pub stands : files.get folder (file_name file.TimesP) ≡ Some text
  pub times : List ℕ
  pub each : length times ≡ (problem_in bundle).events
  pub reads : ReadsAs times_p_columns periodic_time (time_rows times) text

-- The vehicle schedule there: inputs without a fault, and a text that tells the trips of each vehicle in
-- the order driven. Each trip is driven once, and may follow the one that its vehicle drives before it. The
-- plan of the text is that of these vehicles.
pub record ScheduleThere (folder : Folder) : Type 0 where
  pub bundle : BundleParts
  pub given : IsGiven folder stage.Vehicles bundle
  pub faultless : vehicles_faults bundle ≡ []
  pub text : List ℕ
  pub stands : files.get folder (file_name file.Schedule) ≡ Some text
  pub vehicles : List (List ℕ)
  pub reads : IsTextOf (trips_in bundle) vehicles text
  pub follows : MayDrive (trips_in bundle) vehicles
  pub plan : IsPlanOf (length (trips_in bundle).trips) vehicles (plan_of (trips_in bundle) text)

-- The disposition there: inputs without a fault, and a time for each event of the day.
pub record DispositionThere (folder : Folder) : Type 0 where
  pub bundle : BundleParts
  pub given : IsGiven folder stage.Disposition bundle
  pub faultless : disposition_faults bundle ≡ []
  pub text : List ℕ
  pub stands : files.get folder (file_name file.Disposed) ≡ Some text
  pub times : List ℕ
  pub each : length times ≡ length (day_in bundle).events
  pub reads : ReadsAs disposed_columns disposed_time (disposed_rows times) text
