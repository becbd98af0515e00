-- How reading settings ends.
use Rattle.std.specs.Prelude.{Bool, true, false, Result, Ok, Err}
use Rattle.plan_files.specs.declared.file_fault.FileFault.{FileFault}
use Rattle.plan_files.specs.declared.file_fault.FileFault.TheVariants as file_fault
use Rattle.config_keys.specs.declared.config_end.ConfigEnd.{ConfigEnd}
use Rattle.config_keys.specs.declared.config_end.ConfigEnd.TheVariants.{Refused, FileFault as Broken, NoMemory}

-- the end that a failed call on a file makes
abbrev pub end_of_fault : FileFault → ConfigEnd
end_of_fault file_fault.Failed = Broken
end_of_fault file_fault.NoMemory = NoMemory

-- reading ended at the fault of a file
abbrev pub is_broken : {T : Type 0} → Result T ConfigEnd → Bool
is_broken (Ok _) = false
is_broken (Err Broken) = true
is_broken (Err (Refused _)) = false
is_broken (Err NoMemory) = false
