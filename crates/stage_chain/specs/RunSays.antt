-- What a run says, by what an observer sees before and after it.
use Rattle.std.specs.Prelude.{ℕ, ◌≡◌, ◌≤◌, ◌+◌, List, [], Option, None, IfSome, Result, Ok, Err}
use Rattle.std.specs.FinMap as folders
use Rattle.plan_files.specs.declared.write.Write.{Write}
use Rattle.plan_files.specs.Changes.{folder_after}
use Rattle.plan_files.specs.Counts.{Counts}
use Rattle.plan_files.specs.Folder.{Folder}
use Rattle.command_line.specs.declared.mode.Mode.{Mode}
use Rattle.command_line.specs.declared.mode.Mode.TheVariants as mode
use Rattle.command_line.specs.declared.ends.RunEnd.TheVariants as end
use Rattle.stage_chain.specs.declared.outcome.ChainFault.{ChainFault}
use Rattle.stage_chain.specs.declared.outcome.Outcome.{Outcome}
use Rattle.stage_chain.specs.Checks.{check_of}
use Rattle.stage_chain.specs.Ends.{has_failed}
use Rattle.stage_chain.specs.Hand.{hand_of}
use Rattle.stage_chain.specs.Kept.{IsKeptHonest}
use Rattle.stage_chain.specs.Right.{IsLeftRight}
use Rattle.stage_chain.specs.Runs.{AddsNoHandFile, IsFromScratch, IsLeft, IsOutcome, IsUnfinished}
use Rattle.stage_chain.specs.Runs.{SameHand, Trusts, entries_over, kept_part, run_over, started}
use Rattle.stage_chain.specs.Runs.{without_keep, writes_of}
use Rattle.stage_chain.specs.Stopped.{AddsHarmless, StopsSafely}
use Rattle.stage_chain.specs.StageParts.{StageParts}

-- What an observer sees of files and steps: the files and the writes that were made, where they are told,
-- the count of the faults of files, and the count of steps.
pub record SeenFiles : Type 0 where
  pub contents : Option Folder
  pub writes : Option (List Write)
  pub faults : ℕ
  pub steps : ℕ

-- what an object tells of its files, and a count of steps
abbrev pub seen_files : {X : Type 0} → (X → Option Folder) → (X → Option (List Write)) → (X → ℕ) → X → ℕ
    → SeenFiles
seen_files contents_of writes_of faults_of files steps = record {
  contents = contents_of files;
  writes = writes_of files;
  faults = faults_of files;
  steps = steps;
}

module _ (S : StageParts) (by : Mode) (before after : SeenFiles) where
  -- A finished run over a folder left the folder and the writes of the chain, and took its steps. Where it
  -- trusts what is kept, that is what is made from scratch; each stage that was made is right in the folder
  -- that is left; what is kept there is honest; and where all stages were made the folder passes a check.
  -- After a fresh run the new entries alone are kept. A further run over the folder writes nothing.
  pub record Finished (read : Folder) : Type 0 where
    pub files : IsLeft S by read after.contents before.writes after.writes
    pub steps : after.steps ≡ before.steps + (run_over S (started by read)).work
    pub scratch : Trusts S by read → IsFromScratch S (run_over S (started by read)) (hand_of read)
    pub right : Trusts S by read → IsLeftRight S read after.contents
    pub keep : Trusts S by read → IfSome after.contents (IsKeptHonest S)
    pub passes : Trusts S by read → (run_over S (started by read)).end ≡ end.Done
        → IfSome after.contents (λ left. check_of S left ≡ None)
    pub fresh : by ≡ mode.Fresh
        → IfSome after.contents
        (λ left. kept_part left ≡ folder_after (entries_over S (without_keep read)) folders.empty)
    pub again : IfSome after.contents (λ left. writes_of S left ≡ [])

  -- By the result: a finished run tells what the chain makes, and a fault leaves not all of its writes.
  abbrev pub LeavesBy : Folder → Result Outcome ChainFault → Type 0
  LeavesBy read (Ok outcome) = IsOutcome (run_over S (started by read)) outcome × Finished read
  LeavesBy read (Err fault) = IsUnfinished S by fault read after.contents before.writes after.writes

  -- Whatever the result, what is kept stays honest, the run may be stopped at any moment, and it takes no more
  -- steps than the chain.
  pub record StaysSafe (read : Folder) : Type 0 where
    pub keeps_honest : IsKeptHonest S read → IfSome after.contents (IsKeptHonest S)
    pub stops : StopsSafely S by read before.writes after.writes
    pub no_more_steps : after.steps ≤ before.steps + (run_over S (started by read)).work

  -- What a run says over a folder that is told; and over any, that no file which people write is changed or
  -- named by a write, that the steps do not fall, and that the faults are counted.
  pub record RunSays (result : Result Outcome ChainFault) : Type 0 where
    pub leaves : IfSome before.contents (λ read. LeavesBy read result)
    pub safe : IfSome before.contents StaysSafe
    pub hand : SameHand before.contents after.contents
    pub writes_no_hand_file : AddsNoHandFile before.writes after.writes
    pub no_less_steps : before.steps ≤ after.steps
    pub faults : Counts (has_failed result) before.faults after.faults

module _ (S : StageParts) (before after : SeenFiles) where
  -- ---- inner words

  -- A run over what is kept says what a run says that is not fresh, and its writes are harmless.
  pub record KeptRunSays (result : Result Outcome ChainFault) : Type 0 where
    pub says : RunSays S mode.Make before after result
    pub harmless : IfSome before.contents (λ read.
        AddsHarmless S read after.contents before.writes after.writes)
