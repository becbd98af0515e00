-- The words that the program is given, and its exit status.
use Rattle.std.specs.Prelude.{ℕ, ◌≡◌, List, [], drop, Result, Ok, Err, String}
use Rattle.std.specs.declared.alloc.Global.{Global}
use Rattle.std.specs.declared.vec.IntoIter.{IntoIter}
use Rattle.std.specs.Vec.Iter.{into_iter_items}
use Rattle.command_line.specs.declared.status.Status.{Status}
use Rattle.command_line.specs.Statuses.{number_of}

-- the words of a command line after the program's name, all of them and in their order; none where it
-- could not be read
abbrev pub words_after_name : {E : Type 0} → Result (IntoIter (String Global) Global) E → List (String Global)
words_after_name (Ok line) = drop 1 (into_iter_items line)
words_after_name (Err error) = []

-- an exit status is the number of an answer
abbrev pub IsNumberOfStatus : ℕ → Type 0
IsNumberOfStatus number = (status : Status) × (number ≡ number_of status)
