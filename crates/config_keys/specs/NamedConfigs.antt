-- Which file a fault of a config names.
use Rattle.std.specs.Prelude.{ℕ, ◌≡◌, Bool, true, List, ⊤}
use Rattle.config_keys.specs.declared.config_fault.ConfigFault.{ConfigFault}
use Rattle.config_keys.specs.declared.config_fault.ConfigFault.TheVariants as fault

-- a fault names no file but those whose name passes a test
abbrev pub ConfigNames : (List ℕ → Bool) → ConfigFault → Type 0
ConfigNames test (fault.BadRow name row why) = test name ≡ true
ConfigNames test (fault.MissingInclude name) = test name ≡ true
ConfigNames test (fault.IncludeOutside name row) = test name ≡ true
ConfigNames test (fault.TooDeep name row) = test name ≡ true
ConfigNames test (fault.TooManyIncludes name row) = test name ≡ true
ConfigNames test (fault.TooLong name) = test name ≡ true
ConfigNames test (fault.BadValue key) = ⊤
