-- How the program ends.
use Rattle.std.specs.Prelude.{ℕ}
use Rattle.command_line.specs.declared.ends.QueryEnd.{QueryEnd}
use Rattle.command_line.specs.declared.ends.QueryEnd.TheVariants as query
use Rattle.command_line.specs.declared.ends.RunEnd.{RunEnd}
use Rattle.command_line.specs.declared.ends.RunEnd.TheVariants as end
use Rattle.command_line.specs.declared.status.Status.{Status}
use Rattle.command_line.specs.declared.status.Status.TheVariants.{Done, Usage, BadInput, NoSolution}
use Rattle.command_line.specs.declared.status.Status.TheVariants.{Spent, FileFault, SinkFault}
use Rattle.command_line.specs.declared.status.Status.TheVariants.{NoMemory, Uncertified}

-- the exit status of the program
abbrev pub number_of : Status → ℕ
number_of Done = 0
number_of Usage = 2
number_of BadInput = 3
number_of NoSolution = 4
number_of Spent = 5
number_of FileFault = 6
number_of SinkFault = 7
number_of NoMemory = 8
number_of Uncertified = 9

-- the answer to a run of the chain
abbrev pub status_of : RunEnd → Status
status_of end.Done = Done
status_of end.BadInput = BadInput
status_of end.NoSolution = NoSolution
status_of end.Spent = Spent

-- the answer to a question
abbrev pub status_of_query : QueryEnd → Status
status_of_query query.Done = Done
status_of_query query.BadInput = BadInput
status_of_query query.Spent = Spent
status_of_query query.Uncertified = Uncertified

-- a status that a report which was written whole can end with
abbrev pub IsReport : Status → Type 0
IsReport SinkFault = ⊥
IsReport NoMemory = ⊥
IsReport _ = Unit {0}
