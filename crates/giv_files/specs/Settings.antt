-- Settings of a stage, and whether they fit it.
use Rattle.std.specs.Prelude.{ℕ, ℤ, pos, ◌≡◌, unsigned_abs, unwrap_or, Bool, true, List, length, map, Option}
use Rattle.std.specs.List.{find, list_all}
use Rattle.std.specs.Option.{option_map}
use Rattle.giv_files.specs.declared.key.Key.{Key}
use Rattle.giv_files.specs.declared.setting.Setting.{Setting}
use Rattle.giv_files.specs.declared.stage.Stage.{Stage}
use Rattle.giv_files.specs.CrossRules.{keeps_rule}
use Rattle.giv_files.specs.Keys.{is_key, allows, stage_keys}
use Rattle.giv_files.specs.Stages.{stage_inputs}

-- the value of the first setting with a key
abbrev pub value_of : List Setting → Key → Option ℤ
value_of settings key =
    option_map (λ setting. setting.value) (find (λ setting. is_key key setting.key) settings)

-- the value of a key that is not below 0: 0 where the key is not there
abbrev pub amount : List Setting → Key → ℕ
amount settings key = unsigned_abs (unwrap_or (value_of settings key) (pos 0))

-- a setting has a value that its key may have
abbrev pub is_allowed : Setting → Bool
is_allowed setting = allows setting.key setting.value

-- a setting keeps the rule of its key among settings
abbrev pub is_uncrossed : List Setting → Setting → Bool
is_uncrossed settings setting = keeps_rule (value_of settings) setting.key setting.value

-- settings are exactly those of a stage: its keys in their order, each with a value that it may have
-- and that keeps its rule
pub record SettingsFit (stage : Stage) (settings : List Setting) : Type 0 where
  pub keys : map (λ setting. setting.key) settings ≡ stage_keys stage
  pub allowed : list_all is_allowed settings ≡ true
  pub uncrossed : list_all (is_uncrossed settings) settings ≡ true

-- a stage with its settings and its input texts
pub record BundleParts : Type 0 where
  pub stage : Stage
  pub settings : List Setting
  pub inputs : List (List ℕ)

-- the settings are those of the stage, and there are as many inputs as it takes
pub record Fits (bundle : BundleParts) : Type 0 where
  pub settings : SettingsFit bundle.stage bundle.settings
  pub inputs : length bundle.inputs ≡ length (stage_inputs bundle.stage)
