-- What holds of runs over all folders.
use Rattle.plan_files.specs.Folder.{Folder}
use Rattle.plan_files.specs.Others.{AreOutside}
use Rattle.command_line.specs.declared.mode.Mode.{Mode}
use Rattle.stage_chain.specs.Hand.{hand_of, is_hand}
use Rattle.stage_chain.specs.Kept.{IsKeptHonest, KeepsNothing}
use Rattle.stage_chain.specs.NextRuns.{TellsNext}
use Rattle.stage_chain.specs.Passing.{RunsPass}
use Rattle.stage_chain.specs.Right.{MadeFilesAreRight, RefusesHand}
use Rattle.stage_chain.specs.Runs.{FreshKeeps, IsFromScratch, IsOnce, Trusts, run_over, started, writes_of}
use Rattle.stage_chain.specs.StageParts.{StageParts}

module _ (S : StageParts) where
  -- A run over what it trusts makes what is made from scratch. Made files are right over the files there from
  -- which they were made. What is refused are files that people write. What a run over a trusted keep leaves
  -- passes a check, where it ended as done. A folder without keep files is honest, and a fresh run leaves its
  -- new entries alone. What is told of the states of stages is what the next run does. No write of a run names
  -- a file that people write, and no two have one name.
  pub record ChainLaws : Type 0 where
    pub from_scratch : (by : Mode) (folder : Folder) → Trusts S by folder
        → IsFromScratch S (run_over S (started by folder)) (hand_of folder)
    pub made_files_are_right : (folder : Folder) → MadeFilesAreRight S folder
    pub refusal : (folder : Folder) → RefusesHand S (hand_of folder)
    pub runs_pass : (by : Mode) (folder : Folder) → RunsPass S by folder
    pub empty_keep : (folder : Folder) → KeepsNothing folder → IsKeptHonest S folder
    pub fresh_keep : (folder : Folder) → FreshKeeps S folder
    pub next : (folder : Folder) → TellsNext S folder
    pub outside : (folder : Folder) → AreOutside is_hand (writes_of S folder)
    pub once : (folder : Folder) → IsOnce (writes_of S folder)
