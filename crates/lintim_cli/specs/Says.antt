-- What each command says, leaves and means, by what an observer sees before and after it.
use Rattle.std.specs.Prelude.{◌≡◌, ◌≤◌, ◌<◌, ◌⊎◌, Option, Some, None, IfSome}
use Rattle.plan_files.specs.Counts.{Rose}
use Rattle.plan_files.specs.Folder.{Folder}
use Rattle.command_line.specs.declared.mode.Mode.{Mode}
use Rattle.stage_chain.specs.Hand.{hand_of}
use Rattle.stage_chain.specs.Runs.{AddsNoHandFile, SameHand}
use Rattle.stage_driver.specs.BestPlans.{PlansAreBest}
use Rattle.stage_driver.specs.FeasiblePlans.{PlansAreFeasible}
use Rattle.stage_driver.specs.PlansThere.{is_run_in}
use Rattle.stage_driver.specs.PlanningChain.{ChainLaws, PassesIn, StaysSafe, Trusts}
use Rattle.stage_driver.specs.SolvedEnds.{CanBeDone, EndsAsSolved, EndsAsSolvedOver}
use Rattle.command_line.specs.declared.form.Form.{Form}
use Rattle.plan_queries.specs.Queries.{TakesNone}
use Rattle.command_line.specs.declared.status.Status.{Status}
use Rattle.command_line.specs.declared.status.Status.TheVariants as status
use Rattle.command_line.specs.declared.command.Command.{Command}
use Rattle.command_line.specs.declared.command.Command.TheVariants as command
use Rattle.command_line.specs.Reports.{Reported, usage_report}
use Rattle.lintim_cli.specs.Top.{ChangesNothing, CheckTells, DemoTells, FileBroke, FormProves, FormTells}
use Rattle.lintim_cli.specs.Top.{IsDone, Leaves, Seen, StatusTells}

module _ (before after : Seen) (result : Status) where
  -- `make` and `fresh`. Over a told folder the answer says what is told and left, whatever is kept
  -- there. A run that can be done is done. What is kept stays honest. Wherever the writes are stopped that
  -- it added, the last of them perhaps made in part, the files that people write are as before, and what
  -- is kept is honest: from an honest keep, and for a fresh run from any keep once all of it is removed.
  -- So the next run that meets no fault leaves what the hand files alone determine. The count of steps
  -- rises by at most the work of the stages that are not kept.
  pub record SaysRun (mode : Mode) : Type 0 where
    pub leaves : IfSome before.files.contents (λ folder. Leaves mode folder before after result)
    pub done : IfSome before.files.contents
        (λ folder. Trusts mode folder → CanBeDone (hand_of folder) → IsDone before after result)
    pub safe : IfSome before.files.contents (StaysSafe mode before.files after.files)

  -- `check` tells what it finds over a told folder, and changes nothing. Where it passes, the files of each
  -- stage that is to run satisfy its model, whoever made them; of these stages the plans are feasible, and
  -- none is better than those with a certificate beside them.
  pub record SaysCheck : Type 0 where
    pub tells : IfSome before.files.contents (λ folder. CheckTells folder before.out after.out result)
    pub passes : IfSome before.files.contents (λ folder. result ≡ status.Done → PassesIn folder)
    pub feasible : IfSome before.files.contents
        (λ folder. result ≡ status.Done → PlansAreFeasible (is_run_in folder) folder)
    pub best : IfSome before.files.contents (λ folder. result ≡ status.Done → PlansAreBest (is_run_in folder) folder)
    pub changes_nothing : ChangesNothing before.files after.files

  -- `status` tells the states of a told folder's stages, and changes nothing.
  pub record SaysStatus : Type 0 where
    pub tells : IfSome before.files.contents (λ folder. StatusTells folder before.out after.out result)
    pub changes_nothing : ChangesNothing before.files after.files

  -- A question tells its answer over a told folder, and changes no file. What it answers is right: no set of
  -- changes costs less than a marked waiting decision, or than one that was saved and passes with a tree; no
  -- journey arrives earlier; a pool is accepted, and each of its lines is a shortest walk between two
  -- terminals. Only waiting decisions take steps.
  pub record SaysAnswer (form : Form) : Type 0 where
    pub tells : IfSome before.files.contents
        (λ folder. FormTells form folder before.out after.out before.files.steps after.files.steps result)
    pub proves : IfSome before.files.contents (λ folder. FormProves form folder before.out after.out result)
    pub contents : after.files.contents ≡ before.files.contents
    pub writes : after.files.writes ≡ before.files.writes
    pub no_steps : TakesNone form → after.files.steps ≡ before.files.steps

  -- by the command: a demo tells what the stages make of its own dataset from scratch; other words are
  -- answered by the usage line alone
  abbrev pub Says : Option Command → Type 0
  Says (Some (command.Run mode)) = SaysRun mode
  Says (Some command.Check) = SaysCheck
  Says (Some command.Status) = SaysStatus
  Says (Some (command.Ask form)) = SaysAnswer form
  Says (Some (command.Demo number)) = DemoTells number before.out after.out before.files.steps after.files.steps result
  Says None = Reported usage_report status.Usage before.out after.out before.sink_faults after.sink_faults result

  -- Whatever the words: the files that people write, and all others that no stage makes or keeps, are as
  -- before; no write that is told names one. A file fault comes only where the count rose, and its line, or
  -- a front part of it, is out. A sink fault comes only where its count rose. Where memory was refused
  -- nothing is out.
  pub record SaysAlways : Type 0 where
    pub hand : SameHand before.files.contents after.files.contents
    pub writes_no_hand_file : AddsNoHandFile before.files.writes after.files.writes
    pub file_fault : result ≡ status.FileFault
        → FileBroke before.files.faults after.files.faults before.out after.out before.sink_faults after.sink_faults
    pub file_fault_comes : before.files.faults < after.files.faults → (result ≡ status.FileFault)
        ⊎ (result ≡ status.NoMemory)
    pub sink_fault : result ≡ status.SinkFault → Rose before.sink_faults after.sink_faults
    pub sink_fault_comes : before.sink_faults < after.sink_faults → (result ≡ status.SinkFault)
        ⊎ (result ≡ status.FileFault)
    pub no_memory : result ≡ status.NoMemory → after.out ≡ before.out
    pub no_less_steps : before.files.steps ≤ after.files.steps

-- other words and a demo call nothing on the files
abbrev pub CallsNothing : Option Command → Type 0
CallsNothing (Some (command.Demo number)) = Unit {0}
CallsNothing None = Unit {0}
CallsNothing _ = ⊥

-- What holds over all folders: the laws of runs, checks and states of any chain. A chain ends with no
-- solution, and spent, exactly where a search is given what has none, or what it lists beyond its budget; and
-- so does a run over any folder, whatever is kept there, for the searches that are not kept.
pub record Laws : Type 0 where
  pub chain : ChainLaws
  pub ends : (hand : Folder) → EndsAsSolved hand
  pub ends_over : (folder : Folder) → EndsAsSolvedOver folder
