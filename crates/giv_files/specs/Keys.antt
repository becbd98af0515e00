-- Keys of settings: one row for each, and what the rows say.
use Rattle.std.specs.Prelude.{ℕ, ℤ, pos, int_le, ◌&&◌, ◌*◌, ◌==◌, Bool, List, [], ◌∷◌, codes}
use Rattle.std.specs.List.{filter, list_any}
use denote.Enum.Declared.{tag_of}
use Rattle.giv_files.specs.contracts.key.Key.{the_type}
use Rattle.giv_files.specs.declared.key.Key.{Key}
use Rattle.giv_files.specs.declared.key.Key.TheVariants as key
use Rattle.giv_files.specs.declared.key_kind.KeyKind.{KeyKind}
use Rattle.giv_files.specs.declared.key_kind.KeyKind.TheVariants as kind
use Rattle.giv_files.specs.declared.key_words.KeyWords.TheVariants as words
use Rattle.giv_files.specs.declared.stage.Stage.{Stage}
use Rattle.giv_files.specs.declared.stage.Stage.TheVariants as stage
use Rattle.giv_files.specs.KeyKinds.{least, greatest}
use Rattle.giv_files.specs.Stages.{stage_tag}

-- the row of a key: how config files write it, what its value may be, its value where no file gives
-- one, and the stages that have it
pub record KeyRow : Type 0 where
  pub name : List ℕ
  pub kind : KeyKind
  pub default : ℤ
  pub stages : List Stage

-- a row whose default is not below 0
abbrev pub row : List ℕ → KeyKind → ℕ → List Stage → KeyRow
row name kind default stages = record {
  name = name;
  kind = kind;
  default = pos default;
  stages =
      stages;
}

-- a whole number in a range
abbrev pub whole : ℕ → ℕ → KeyKind
whole min max = kind.Whole (pos min) (pos max)

-- a number from 0 on in millionths, with a limit in units
abbrev pub fixed : ℕ → KeyKind
fixed max = kind.Fixed (pos 0) (pos (max * 1000000))

-- the table of keys; the default of a fixed number is in millionths
abbrev pub key_row : Key → KeyRow
key_row key.LastStage = row (codes "last_stage") (kind.Word words.Stages) 8 []
key_row key.LoadSource = row (codes "load_source") (kind.Word words.LoadSources) 0 (stage.Load ∷ [])
key_row key.GenPassengersPerVehicle =
    row (codes "gen_passengers_per_vehicle") (whole 1 100000) 70 (stage.Load ∷ [])
key_row key.LoadSpread = row (codes "load_spread") (whole 0 1000) 3 (stage.Load ∷ [])
key_row key.LpoolCostsFixed =
    row (codes "lpool_costs_fixed") (fixed 1000000) 10000000 (stage.Cost ∷ [])
key_row key.LpoolCostsLength =
    row (codes "lpool_costs_length") (fixed 10000) 1000000 (stage.Cost ∷ [])
key_row key.LpoolCostsEdges = row (codes "lpool_costs_edges") (fixed 1000000) 0 (stage.Cost ∷ [])
key_row key.ConceptBudget = row (codes "concept_budget") (whole 1 20000) 5000 (stage.Concept ∷ [])
key_row key.PeriodLength =
    row (codes "period_length") (whole 1 720) 60
    (stage.Ean ∷ stage.Timetable ∷ stage.Rollout ∷ stage.Statistic ∷ stage.PinnedTimetable ∷ [])
key_row key.EanDefaultMinimalWaitingTime =
    row (codes "ean_default_minimal_waiting_time") (whole 0 10000) 1 (stage.Ean ∷ [])
key_row key.EanDefaultMaximalWaitingTime =
    row (codes "ean_default_maximal_waiting_time") (whole 0 10000) 3 (stage.Ean ∷ [])
key_row key.EanDefaultMinimalChangeTime =
    row (codes "ean_default_minimal_change_time") (whole 0 10000) 3 (stage.Ean ∷ [])
key_row key.EanDefaultMaximalChangeTime =
    row (codes "ean_default_maximal_change_time") (whole 0 10000) 62 (stage.Ean ∷ [])
key_row key.EanHeadway = row (codes "ean_headway") (whole 0 360) 0 (stage.Ean ∷ [])
key_row key.TimetableBudget =
    row (codes "timetable_budget") (whole 1 1000000) 100000 (stage.Timetable ∷ [])
key_row key.DmEarliestTime =
    row (codes "DM_earliest_time") (whole 0 10080) 300 (stage.Rollout ∷ [])
key_row key.DmLatestTime = row (codes "DM_latest_time") (whole 0 10080) 1380 (stage.Rollout ∷ [])
key_row key.VsTurnOverTime =
    row (codes "vs_turn_over_time") (whole 0 10000) 5
    (stage.Vehicles ∷ stage.Disposition ∷ stage.PinnedVehicles ∷ [])
key_row key.VsVehicleCosts =
    row (codes "vs_vehicle_costs") (fixed 1000000) 100000000
    (stage.Vehicles ∷ stage.Statistic ∷ stage.PinnedVehicles ∷ [])
key_row key.VsEmptyCosts =
    row (codes "vs_empty_costs") (fixed 1000000) 1000000
    (stage.Vehicles ∷ stage.Statistic ∷ stage.PinnedVehicles ∷ [])
key_row key.DmWait = row (codes "dm_wait") (kind.Wait (pos 10000)) 3 (stage.Disposition ∷ [])
key_row key.PinConcept = row (codes "pin_concept") (kind.Word words.NoOrYes) 0 []
key_row key.PinTimetable = row (codes "pin_timetable") (kind.Word words.NoOrYes) 0 []
key_row key.PinVehicles = row (codes "pin_vehicles") (kind.Word words.NoOrYes) 0 []

-- the keys in their order
abbrev pub all_keys : List Key
all_keys =
    key.LastStage
    ∷ key.LoadSource
    ∷ key.GenPassengersPerVehicle
    ∷ key.LoadSpread
    ∷ key.LpoolCostsFixed
    ∷ key.LpoolCostsLength
    ∷ key.LpoolCostsEdges
    ∷ key.ConceptBudget
    ∷ key.PeriodLength
    ∷ key.EanDefaultMinimalWaitingTime
    ∷ key.EanDefaultMaximalWaitingTime
    ∷ key.EanDefaultMinimalChangeTime
    ∷ key.EanDefaultMaximalChangeTime
    ∷ key.EanHeadway
    ∷ key.TimetableBudget
    ∷ key.DmEarliestTime
    ∷ key.DmLatestTime
    ∷ key.VsTurnOverTime
    ∷ key.VsVehicleCosts
    ∷ key.VsEmptyCosts
    ∷ key.DmWait
    ∷ key.PinConcept
    ∷ key.PinTimetable
    ∷ key.PinVehicles
    ∷ []

-- the place of a key in the order of keys, which is that of the enum
abbrev pub key_place : Key → ℕ
key_place key = tag_of the_type key

-- one key is another
abbrev pub is_key : Key → Key → Bool
is_key key other = key_place other == key_place key

-- what the row of a key says
abbrev pub key_name : Key → List ℕ
key_name key = (key_row key).name

abbrev pub key_kind : Key → KeyKind
key_kind key = (key_row key).kind

abbrev pub key_default : Key → ℤ
key_default key = (key_row key).default

-- a key may have a value, apart from the values of other keys
abbrev pub allows : Key → ℤ → Bool
allows key value = int_le (least (key_kind key)) value && int_le value (greatest (key_kind key))

-- a stage has a key
abbrev pub has_key : Stage → Key → Bool
has_key stage key = list_any (λ other. stage_tag other == stage_tag stage) (key_row key).stages

-- the keys of the settings of a stage, in the order of keys
unfoldable pub stage_keys : Stage → List Key
stage_keys stage = filter (has_key stage) all_keys
