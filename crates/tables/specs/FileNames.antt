-- Names of the files of a dataset.
use Rattle.std.specs.Prelude.{ℕ, List, codes}
use Rattle.tables.specs.declared.file_id.FileId.{FileId}
use Rattle.tables.specs.declared.file_id.FileId.TheVariants as file

-- the path of a file below the dataset's folder
abbrev pub file_name : FileId → List ℕ
file_name file.Stop = codes "basis/Stop.giv"
file_name file.Edge = codes "basis/Edge.giv"
file_name file.LoadGiven = codes "basis/Load.giv"
file_name file.Od = codes "basis/OD.giv"
file_name file.Pool = codes "basis/Pool.giv"
file_name file.EventDelays = codes "delay-management/Event-delays.giv"
file_name file.ActivityDelays = codes "delay-management/Activity-delays.giv"
file_name file.PinnedConcept = codes "pinned/Line-Concept.lin"
file_name file.PinnedTree = codes "pinned/Line-Concept.cert"
file_name file.PinnedTimes = codes "pinned/Timetable-periodic.tim"
file_name file.PinnedSchedule = codes "pinned/Vehicle_Schedules.vs"
file_name file.PinnedPotential = codes "pinned/Vehicle_Schedules.cert"
file_name file.Load = codes "line-planning/Load.giv"
file_name file.PoolCost = codes "basis/Pool-Cost.giv"
file_name file.Concept = codes "line-planning/Line-Concept.lin"
file_name file.Tree = codes "line-planning/Line-Concept.cert"
file_name file.EventsP = codes "timetabling/Events-periodic.giv"
file_name file.ActivitiesP = codes "timetabling/Activities-periodic.giv"
file_name file.TimesP = codes "timetabling/Timetable-periodic.tim"
file_name file.EventsX = codes "delay-management/Events-expanded.giv"
file_name file.ActivitiesX = codes "delay-management/Activities-expanded.giv"
file_name file.Trips = codes "delay-management/Trips.giv"
file_name file.Schedule = codes "vehicle-scheduling/Vehicle_Schedules.vs"
file_name file.Potential = codes "vehicle-scheduling/Vehicle_Schedules.cert"
file_name file.Disposed = codes "delay-management/Timetable-disposition.tim"
file_name file.Reasons = codes "delay-management/Timetable-disposition.cert"
file_name file.Statistic = codes "statistic/statistic.sta"
