-- The lines of the keys so far.
use Rattle.plan_num.proofs.Common.{◌≡◌, take, flat_map}
use Rattle.giv_files.specs.Settings.{value_of}
use Rattle.giv_files.specs.SettingsText.{key_line}
use Rattle.giv_files.proofs.settings.Settings.text.Given as goal

abbrev pub invariant-loop-key : goal.invariant-loop-key
invariant-loop-key l =
    l.bytes.items ≡ flat_map (λ key. key_line key (value_of l.self key)) (take l.key-index l.key-items)
