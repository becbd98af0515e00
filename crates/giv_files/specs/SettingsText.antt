-- The text of settings.
use Rattle.std.specs.Prelude.{◌≡◌, ℕ, ℤ, negsuc, zero, suc, pos, List, [], ◌∷◌, ◌++◌, codes, slice_index_or, unsigned_abs, Option, Some, None}
use Rattle.std.specs.List.{flat_map}
use Rattle.std.specs.Fmt.{signed_decimal}
use Rattle.plan_num.specs.Print.{fixed_text}
use Rattle.giv_files.specs.declared.key.Key.{Key}
use Rattle.giv_files.specs.declared.key_kind.KeyKind.{KeyKind}
use Rattle.giv_files.specs.declared.key_kind.KeyKind.TheVariants as kind
use Rattle.giv_files.specs.declared.setting.Setting.{Setting}
use Rattle.giv_files.specs.declared.stage.Stage.{Stage}
use Rattle.giv_files.specs.KeyKinds.{all_word, key_words, none_word}
use Rattle.giv_files.specs.Keys.{all_keys, key_kind, key_name}
use Rattle.giv_files.specs.Settings.{SettingsFit, value_of}

-- how long a change waits: so many minutes, or the word for all changes, or that for none
abbrev pub wait_text : ℤ → List ℕ
wait_text (pos minutes) = signed_decimal (pos minutes)
wait_text (negsuc zero) = all_word
wait_text (negsuc (suc more)) = none_word

-- the value of a key of a kind, as a config file has it
unfoldable pub value_text : KeyKind → ℤ → List ℕ
value_text (kind.Whole min max) value = signed_decimal value
value_text (kind.Fixed min max) value = fixed_text value
value_text (kind.Word words) value = slice_index_or (key_words words) (unsigned_abs value) []
value_text (kind.Wait max) value = wait_text value

-- the line of a key, where it has a value
abbrev pub key_line : Key → Option ℤ → List ℕ
key_line key None = []
key_line key (Some value) =
    key_name key ++ codes "; " ++ value_text (key_kind key) value ++ 10 ∷ []

-- the text of settings: a line for each key that has a value, in the order of keys
unfoldable pub settings_text : List Setting → List ℕ
settings_text settings = flat_map (λ key. key_line key (value_of settings key)) all_keys

-- a text tells settings among those that fit a stage: it is the text of no others
abbrev pub TellsSettings : List Setting → List ℕ → Type 0
TellsSettings settings text = (stage : Stage) (others : List Setting)
    → SettingsFit stage settings → SettingsFit stage others
    → settings_text others ≡ text → others ≡ settings
