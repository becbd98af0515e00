-- The chain of the planning stages over the files of a dataset: what `stage_chain` says of any stages,
-- of these.
use Rattle.std.specs.Prelude.{ℕ, List, Option, Result}
use Rattle.plan_files.specs.declared.write.Write.{Write}
use Rattle.plan_files.specs.Folder.{Folder}
use Rattle.stage_chain.specs.declared.checked.CheckOutcome.{CheckOutcome}
use Rattle.stage_chain.specs.declared.finding.Finding.{Finding}
use Rattle.stage_chain.specs.declared.outcome.ChainFault.{ChainFault}
use Rattle.stage_chain.specs.declared.outcome.Outcome.{Outcome}
use Rattle.command_line.specs.declared.mode.Mode.{Mode}
use Rattle.stage_chain.specs.declared.state.StatesOutcome.{StatesOutcome}
use Rattle.stage_chain.specs.Built.{RunParts}
use Rattle.stage_chain.specs.Built as built_by
use Rattle.stage_chain.specs.ChainLaws as laws_by
use Rattle.stage_chain.specs.Checks as checks_by
use Rattle.stage_chain.specs.Passing as passing_by
use Rattle.stage_chain.specs.Right as right_by
use Rattle.stage_chain.specs.RunSays.{SeenFiles}
use Rattle.stage_chain.specs.RunSays as says_by
use Rattle.stage_chain.specs.Runs as runs_by
use Rattle.stage_chain.specs.States as states_by
use Rattle.planning_stages.specs.Planning.{planning}

-- what the chain makes of hand files from scratch: files, report, end and steps
abbrev pub made : Folder → RunParts
made hand = built_by.made planning hand

-- each stage that was made is right in the folder that is left, where it is told
abbrev pub IsLeftRight : Folder → Option Folder → Type 0
IsLeftRight read left = right_by.IsLeftRight planning read left

-- what a run over a folder makes: the files, the report, how it ends, and how many steps it takes
abbrev pub run_over : Folder → RunParts
run_over folder = runs_by.run_over planning folder

-- the files of a folder that the stages make
abbrev pub made_part : Folder → Folder
made_part folder = runs_by.made_part planning folder

-- what a run is told to trust: a fresh one trusts nothing that is kept
abbrev pub Trusts : Mode → Folder → Type 0
Trusts mode folder = runs_by.Trusts planning mode folder

-- what a run leaves that did not finish
abbrev pub IsUnfinished : Mode → ChainFault → Folder → Option Folder → Option (List Write)
    → Option (List Write) → Type 0
IsUnfinished mode fault read new before now = runs_by.IsUnfinished planning mode fault read new before now

-- what a finished run left of a folder
abbrev pub Finished : Mode → SeenFiles → SeenFiles → Folder → Type 0
Finished mode before after read = says_by.Finished planning mode before after read

-- what is kept stays honest, wherever a run is stopped, and it takes no more steps than the chain
abbrev pub StaysSafe : Mode → SeenFiles → SeenFiles → Folder → Type 0
StaysSafe mode before after read = says_by.StaysSafe planning mode before after read

-- what a run says
abbrev pub RunSays : Mode → SeenFiles → SeenFiles → Result Outcome ChainFault → Type 0
RunSays mode before after result = says_by.RunSays planning mode before after result

-- what holds of runs over all folders
abbrev pub ChainLaws : Type 0
ChainLaws = laws_by.ChainLaws planning

-- what a check of a folder finds, where it does not pass
abbrev pub check_of : Folder → Option Finding
check_of folder = checks_by.check_of planning folder

-- the outcome is what it finds
abbrev pub IsCheck : Folder → CheckOutcome → Type 0
IsCheck folder outcome = checks_by.IsCheck planning folder outcome

-- each stage that is to run has files in a folder which satisfy its model
abbrev pub PassesIn : Folder → Type 0
PassesIn folder = passing_by.PassesIn planning folder

-- what is told of the states of a folder's stages
abbrev pub states_of : Folder → List ℕ
states_of folder = states_by.states_of planning folder

-- the outcome tells that
abbrev pub TellsStates : Folder → StatesOutcome → Type 0
TellsStates folder outcome = states_by.TellsStates planning folder outcome
