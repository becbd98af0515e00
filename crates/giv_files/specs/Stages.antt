-- Stages of the chain: one row for each, and what the rows say.
use Rattle.std.specs.Prelude.{ℕ, List, [], ◌∷◌, ◌++◌, codes, Option, Some, None}
use denote.Enum.Declared.{tag_of}
use Rattle.giv_files.specs.contracts.stage.Stage.{the_type}
use Rattle.tables.specs.declared.file_id.FileId.{FileId}
use Rattle.tables.specs.declared.file_id.FileId.TheVariants as file
use Rattle.giv_files.specs.declared.stage.Stage.{Stage}
use Rattle.giv_files.specs.declared.stage.Stage.TheVariants as stage

-- the row of a stage: the word for it in settings and reports, the file of a folder that keeps what
-- it made last, the place that it runs in (by the stage that runs there where nothing is pinned), the
-- files that it takes and those that it makes, both in order, and the one of these that it may make
-- alone
pub record StageRow : Type 0 where
  pub name : List ℕ
  pub kept : List ℕ
  pub place : Stage
  pub inputs : List FileId
  pub makes : List FileId
  pub alone : Option FileId

-- a row; the file that keeps has the name of the stage
abbrev pub row : List ℕ → Stage → List FileId → List FileId → Option FileId → StageRow
row name place inputs makes alone = record {
  name = name;
  kept = codes "keep/" ++ name ++ codes ".keep";
  place = place;
  inputs = inputs;
  makes = makes;
  alone = alone;
}

-- the table of stages. Where loads are given, LoadGiven stands in the place of Od. A concept without
-- a mark has no Tree, and a schedule that a person gives may have no potentials.
abbrev pub stage_row : Stage → StageRow
stage_row stage.Load =
    row (codes "load") stage.Load (file.Stop ∷ file.Edge ∷ file.Od ∷ []) (file.Load ∷ []) None
stage_row stage.Cost =
    row (codes "cost") stage.Cost (file.Stop ∷ file.Edge ∷ file.Pool ∷ []) (file.PoolCost ∷ []) None
stage_row stage.Concept =
    row (codes "concept") stage.Concept
    (file.Stop ∷ file.Edge ∷ file.Pool ∷ file.Load ∷ file.PoolCost ∷ [])
    (file.Concept ∷ file.Tree ∷ []) (Some file.Concept)
stage_row stage.Ean =
    row (codes "ean") stage.Ean (file.Stop ∷ file.Edge ∷ file.Concept ∷ [])
    (file.EventsP ∷ file.ActivitiesP ∷ []) None
stage_row stage.Timetable =
    row (codes "timetable") stage.Timetable (file.EventsP ∷ file.ActivitiesP ∷ [])
    (file.TimesP ∷ []) None
stage_row stage.Rollout =
    row (codes "rollout") stage.Rollout (file.EventsP ∷ file.ActivitiesP ∷ file.TimesP ∷ [])
    (file.EventsX ∷ file.ActivitiesX ∷ file.Trips ∷ []) None
stage_row stage.Vehicles =
    row (codes "vehicles") stage.Vehicles (file.Stop ∷ file.Edge ∷ file.Trips ∷ [])
    (file.Schedule ∷ file.Potential ∷ []) None
stage_row stage.Disposition =
    row (codes "disposition") stage.Disposition
    (file.EventsX ∷ file.ActivitiesX ∷ file.Schedule ∷ file.EventDelays ∷ file.ActivityDelays ∷ [])
    (file.Disposed ∷ file.Reasons ∷ []) None
stage_row stage.Statistic =
    row (codes "statistic") stage.Statistic
    (file.PoolCost ∷ file.Concept ∷ file.EventsP ∷ file.ActivitiesP ∷ file.TimesP ∷ file.Trips
    ∷ file.EventsX ∷ file.ActivitiesX ∷ file.Schedule ∷ file.Disposed ∷ [])
    (file.Statistic ∷ []) None
stage_row stage.PinnedConcept =
    row (codes "pinned-concept") stage.Concept
    (file.Stop ∷ file.Edge ∷ file.Pool ∷ file.Load ∷ file.PoolCost ∷ file.PinnedConcept
    ∷ file.PinnedTree ∷ [])
    (file.Concept ∷ file.Tree ∷ []) (Some file.Concept)
stage_row stage.PinnedTimetable =
    row (codes "pinned-timetable") stage.Timetable
    (file.EventsP ∷ file.ActivitiesP ∷ file.PinnedTimes ∷ []) (file.TimesP ∷ []) None
stage_row stage.PinnedVehicles =
    row (codes "pinned-vehicles") stage.Vehicles
    (file.Stop ∷ file.Edge ∷ file.Trips ∷ file.PinnedSchedule ∷ file.PinnedPotential ∷ [])
    (file.Schedule ∷ file.Potential ∷ []) (Some file.Schedule)

-- the places of a chain, by the stages that run in them where nothing is pinned, in the order in which
-- they run
abbrev pub places : List Stage
places =
    stage.Load ∷ stage.Cost ∷ stage.Concept ∷ stage.Ean ∷ stage.Timetable ∷ stage.Rollout
    ∷ stage.Vehicles ∷ stage.Disposition ∷ stage.Statistic ∷ []

-- all stages: those, and the ones that run in the place of some of them where a person pins it
abbrev pub all_stages : List Stage
all_stages = places ++ stage.PinnedConcept ∷ stage.PinnedTimetable ∷ stage.PinnedVehicles ∷ []

-- the place of a stage among all stages, which is that of the enum
abbrev pub stage_tag : Stage → ℕ
stage_tag stage = tag_of the_type stage

-- the word for a stage
abbrev pub stage_name : Stage → List ℕ
stage_name stage = (stage_row stage).name

-- the inputs of a stage, in order; where loads are given, LoadGiven stands in the place of Od
abbrev pub stage_inputs : Stage → List FileId
stage_inputs stage = (stage_row stage).inputs

-- the files that a stage makes, in order; a concept without a mark has no Tree
abbrev pub stage_makes : Stage → List FileId
stage_makes stage = (stage_row stage).makes
