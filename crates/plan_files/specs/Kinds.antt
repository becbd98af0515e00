-- What an error of the system means.
use Rattle.std.specs.declared.io.ErrorKind.{ErrorKind}
use Rattle.std.specs.declared.io.ErrorKind.TheVariants.{OutOfMemory}
use Rattle.plan_files.specs.declared.file_fault.FileFault.{FileFault}
use Rattle.plan_files.specs.declared.file_fault.FileFault.TheVariants.{Failed, NoMemory}

-- want of memory where the system says so, and else a failure
abbrev pub fault_of_kind : ErrorKind → FileFault
fault_of_kind OutOfMemory = NoMemory
fault_of_kind _ = Failed
