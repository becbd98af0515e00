-- The stages that run in the places of the planning chain make up a list that can run.
use Rattle.plan_num.proofs.Common.{arith, ◌≡◌, ℤ, Bool, true, false, cond, List, [], ◌∷◌, map, refl}
use Rattle.plan_num.proofs.Common.{subst, Contains}
use Rattle.tables.specs.declared.file_id.FileId.{FileId}
use Rattle.tables.specs.declared.file_id.FileId.TheVariants as file
use Rattle.giv_files.proofs.Common.{MakesAs, made_lists, places}
use Rattle.giv_files.specs.declared.key.Key.TheVariants as key
use Rattle.giv_files.specs.declared.stage.Stage.{Stage}
use Rattle.giv_files.specs.declared.stage.Stage.TheVariants as stage
use Rattle.stage_chain.specs.Hand.{is_hand}
use Rattle.stage_chain.specs.StageLists.{CanRunIn, IsStageList, is_earlier, rising}
use Rattle.stage_chain.specs.StageParts.{staged}
use Rattle.planning_stages.specs.Places.{in_place, is_pinned}
use Rattle.planning_stages.specs.Planning.{planning}

-- the stage that runs in a place, by which of the places are pinned
abbrev placed_by : Bool → Bool → Bool → Stage → Stage
placed_by concept times vehicles stage.Concept = cond concept stage.PinnedConcept stage.Concept
placed_by concept times vehicles stage.Timetable = cond times stage.PinnedTimetable stage.Timetable
placed_by concept times vehicles stage.Vehicles = cond vehicles stage.PinnedVehicles stage.Vehicles
placed_by concept times vehicles at = at

list_by : (concept times vehicles : Bool) → IsStageList (map (placed_by concept times vehicles) places)
unfolding rising is_earlier is_hand
list_by true true true =
    record { rise = refl; given = refl; files_differ = refl; keeps_differ = refl; no_keep = refl; no_hand = refl }
list_by true true false =
    record { rise = refl; given = refl; files_differ = refl; keeps_differ = refl; no_keep = refl; no_hand = refl }
list_by true false true =
    record { rise = refl; given = refl; files_differ = refl; keeps_differ = refl; no_keep = refl; no_hand = refl }
list_by true false false =
    record { rise = refl; given = refl; files_differ = refl; keeps_differ = refl; no_keep = refl; no_hand = refl }
list_by false true true =
    record { rise = refl; given = refl; files_differ = refl; keeps_differ = refl; no_keep = refl; no_hand = refl }
list_by false true false =
    record { rise = refl; given = refl; files_differ = refl; keeps_differ = refl; no_keep = refl; no_hand = refl }
list_by false false true =
    record { rise = refl; given = refl; files_differ = refl; keeps_differ = refl; no_keep = refl; no_hand = refl }
list_by false false false =
    record { rise = refl; given = refl; files_differ = refl; keeps_differ = refl; no_keep = refl; no_hand = refl }

pub lists_are : (values : List ℤ) → IsStageList (staged planning values)
unfolding planning
lists_are values =
    list_by (is_pinned values key.PinConcept) (is_pinned values key.PinTimetable) (is_pinned values key.PinVehicles)

-- each stage can run in its place
concept_runs : (pinned : Bool) → CanRunIn stage.Concept (cond pinned stage.PinnedConcept stage.Concept)
concept_runs true =
    record { point = refl; makes = refl; more = file.PinnedConcept ∷ file.PinnedTree ∷ []; inputs = refl }
concept_runs false = record { point = refl; makes = refl; more = []; inputs = refl }

times_run : (pinned : Bool) → CanRunIn stage.Timetable (cond pinned stage.PinnedTimetable stage.Timetable)
times_run true = record { point = refl; makes = refl; more = file.PinnedTimes ∷ []; inputs = refl }
times_run false = record { point = refl; makes = refl; more = []; inputs = refl }

vehicles_run : (pinned : Bool) → CanRunIn stage.Vehicles (cond pinned stage.PinnedVehicles stage.Vehicles)
vehicles_run true =
    record { point = refl; makes = refl; more = file.PinnedSchedule ∷ file.PinnedPotential ∷ []; inputs = refl }
vehicles_run false = record { point = refl; makes = refl; more = []; inputs = refl }

pub can_run : (values : List ℤ) (place : Stage) → CanRunIn place (planning.placed values place)
unfolding planning
can_run values stage.Concept = concept_runs (is_pinned values key.PinConcept)
can_run values stage.Timetable = times_run (is_pinned values key.PinTimetable)
can_run values stage.Vehicles = vehicles_run (is_pinned values key.PinVehicles)
can_run values _ = record { point = refl; makes = refl; more = []; inputs = refl }

-- a concept and a timetable are made of the same files, whoever gives them
pub concept_lists : (values : List ℤ) → made_lists (in_place values stage.Concept) ≡ made_lists stage.Concept
concept_lists values = grind arith

pub times_lists : (values : List ℤ) → made_lists (in_place values stage.Timetable) ≡ made_lists stage.Timetable
times_lists values = grind arith

-- so what is left in such a place is what the plain stage may make
pub concept_list : (values : List ℤ) (ids : List FileId) → MakesAs (in_place values stage.Concept) ids
    → MakesAs stage.Concept ids
concept_list values ids makes = subst (λ lists. Contains lists ids) (concept_lists values) makes

pub times_list : (values : List ℤ) (ids : List FileId) → MakesAs (in_place values stage.Timetable) ids
    → MakesAs stage.Timetable ids
times_list values ids makes = subst (λ lists. Contains lists ids) (times_lists values) makes
