-- The settings of a dataset, as the list of the values of all keys.
use Rattle.std.specs.Prelude.{ℕ, ℤ, pos, negsuc, ◌≡◌, true, List, length, map, get_or, Option, Some, Result, Ok, Err, ⊤}
use Rattle.giv_files.specs.declared.key.Key.{Key}
use Rattle.giv_files.specs.declared.key.Key.TheVariants.{LastStage}
use Rattle.giv_files.specs.declared.setting.Setting.{Setting}
use Rattle.giv_files.specs.declared.stage.Stage.{Stage}
use Rattle.giv_files.specs.declared.stage.Stage.TheVariants.{Statistic}
use Rattle.giv_files.specs.CrossRules.{keeps_rule}
use Rattle.giv_files.specs.Keys.{all_keys, key_place, allows, stage_keys}
use Rattle.giv_files.specs.Stages.{places}
use Rattle.config_keys.specs.declared.config_end.ConfigEnd.{ConfigEnd}
use Rattle.config_keys.specs.declared.config_end.ConfigEnd.TheVariants.{Refused, FileFault, NoMemory}
use Rattle.config_keys.specs.Values.{settled}

-- the value of a key among the values of all keys
abbrev pub value_at : List ℤ → Key → ℤ
value_at values key = get_or values (key_place key) (pos 0)

-- an allowed value for each key, each of them keeping its rule
pub record AreSettings (values : List ℤ) : Type 0 where
  pub whole : length values ≡ length all_keys
  pub allowed : (key : Key) → allows key (value_at values key) ≡ true
  pub uncrossed : (key : Key) → keeps_rule (λ other. Some (value_at values other)) key
      (value_at values key) ≡ true

-- a key with its value
abbrev pub setting_at : List ℤ → Key → Setting
setting_at values key = record { key = key; value = value_at values key }

-- the settings of a stage: its keys in their order with their values
abbrev pub part_of : List ℤ → Stage → List Setting
part_of values stage = map (setting_at values) (stage_keys stage)

-- the stage at a place
abbrev pub stage_at : ℤ → Stage
stage_at (pos place) = get_or places place Statistic
stage_at (negsuc _) = Statistic

-- the last stage that is to run
abbrev pub last_stage_of : List ℤ → Stage
last_stage_of values = stage_at (value_at values LastStage)

-- what settling gives: the values of all keys, or the first key whose value is bad
abbrev pub SettleGives : (Key → Option (List ℕ)) → Result (List ℤ) ConfigEnd → Type 0
SettleGives said (Ok values) = settled said ≡ Ok values
SettleGives said (Err (Refused reason)) = settled said ≡ Err reason
SettleGives said (Err FileFault) = ⊥
SettleGives said (Err NoMemory) = ⊤
