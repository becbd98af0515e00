-- What reading the settings of a dataset gives.
use Rattle.std.specs.Prelude.{ℤ, ◌≡◌, List, Result, Ok, Err, ⊤}
use Rattle.config_keys.specs.declared.config_fault.ConfigFault.{ConfigFault}
use Rattle.config_keys.specs.declared.config_end.ConfigEnd.{ConfigEnd}
use Rattle.config_keys.specs.declared.config_end.ConfigEnd.TheVariants.{Refused, FileFault, NoMemory}

-- the settings where they are right, and else why they are refused; other ends are free
abbrev pub ConfigGives : Result (List ℤ) ConfigFault → Result (List ℤ) ConfigEnd → Type 0
ConfigGives settings (Ok config) = settings ≡ Ok config
ConfigGives settings (Err (Refused reason)) = settings ≡ Err reason
ConfigGives settings (Err FileFault) = ⊤
ConfigGives settings (Err NoMemory) = ⊤
