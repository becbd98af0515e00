-- What ends a chain early, and the count of faults.
use Rattle.std.specs.Prelude.{◌≡◌, Bool, true, false, Result, Ok, Err, ⊤}
use Rattle.plan_files.specs.declared.file_fault.FileFault.{FileFault}
use Rattle.plan_files.specs.declared.file_fault.FileFault.TheVariants as file_fault
use Rattle.config_keys.specs.declared.config_end.ConfigEnd.{ConfigEnd}
use Rattle.config_keys.specs.declared.config_end.ConfigEnd.TheVariants as config
use Rattle.stage_chain.specs.declared.chain_end.ChainEnd.{ChainEnd}
use Rattle.stage_chain.specs.declared.chain_end.ChainEnd.TheVariants as end
use Rattle.stage_chain.specs.declared.outcome.ChainFault.{ChainFault}
use Rattle.stage_chain.specs.declared.outcome.ChainFault.TheVariants as fault
use Rattle.stage_chain.specs.declared.cause.Cause.{Cause}
use Rattle.stage_chain.specs.declared.cause.Cause.TheVariants as cause

-- what the fault of a file ends
abbrev pub chain_fault_of : FileFault → ChainFault
chain_fault_of file_fault.Failed = fault.FileFault
chain_fault_of file_fault.NoMemory = fault.NoMemory

-- the fault of a call on a file that ends a run so
abbrev pub file_fault_of : ChainFault → FileFault
file_fault_of fault.FileFault = file_fault.Failed
file_fault_of fault.NoMemory = file_fault.NoMemory

-- what the fault of a file ends in a part of a chain
abbrev pub end_of_file : FileFault → ChainEnd
end_of_file file_fault.Failed = end.FileFault
end_of_file file_fault.NoMemory = end.NoMemory

-- what settings end that are refused
abbrev pub end_of_config : ConfigEnd → ChainEnd
end_of_config (config.Refused reason) = end.Stopped (cause.BadConfig reason)
end_of_config config.FileFault = end.FileFault
end_of_config config.NoMemory = end.NoMemory

-- a part of a chain ended at the fault of a file
abbrev pub is_broken : {T : Type 0} → Result T ChainEnd → Bool
is_broken (Ok _) = false
is_broken (Err end.FileFault) = true
is_broken (Err (end.Stopped _)) = false
is_broken (Err end.NoMemory) = false

-- a run answered the fault of a file
abbrev pub has_failed : {T : Type 0} → Result T ChainFault → Bool
has_failed (Ok _) = false
has_failed (Err fault.FileFault) = true
has_failed (Err fault.NoMemory) = false

-- what a part of a chain gives: what was told, or why the chain stops there; other ends are free
abbrev pub Gives : {T : Type 0} → Result T Cause → Result T ChainEnd → Type 0
Gives told (Ok made) = told ≡ Ok made
Gives told (Err (end.Stopped why)) = told ≡ Err why
Gives told (Err end.FileFault) = ⊤
Gives told (Err end.NoMemory) = ⊤
