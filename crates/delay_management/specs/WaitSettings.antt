-- How long departures wait, by the settings.
use Rattle.std.specs.Prelude.{ℤ, pos, List, unwrap_or}
use Rattle.giv_files.specs.declared.key.Key.TheVariants as key
use Rattle.giv_files.specs.declared.setting.Setting.{Setting}
use Rattle.giv_files.specs.Settings.{value_of}

-- how long a departure waits: so many minutes, for all changes (-1), or for none (-2)
abbrev pub wait_of : List Setting → ℤ
wait_of settings = unwrap_or (value_of settings key.DmWait) (pos 0)
