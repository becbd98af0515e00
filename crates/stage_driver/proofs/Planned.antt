-- What holds of the chain of any stages, of the planning stages.
use Rattle.plan_num.proofs.Common.{◌≡◌, Option, None, Some, IfSome}
use Rattle.std.specs.FinMap as files
use Rattle.plan_files.proofs.Common.{Folder}
use Rattle.giv_files.specs.declared.stage.Stage.{Stage}
use Rattle.stage_keep.specs.Entries.{keep_name}
use Rattle.command_line.specs.declared.mode.Mode.{Mode}
use Rattle.stage_chain.specs.Hand.{hand_of}
use Rattle.stage_chain.specs.Runs.{after, started, with_files}
use Rattle.stage_chain.proofs.ChainLaws as chain_laws_by
use Rattle.stage_chain.proofs.Keeping as keeping
use Rattle.stage_chain.proofs.MadeParts as made_parts
use Rattle.planning_stages.specs.Planning.{planning}
use Rattle.planning_stages.proofs.Laws.{planning_laws}
use Rattle.stage_driver.specs.PlanningChain.{ChainLaws, Trusts, made, made_part, run_over}

-- a run over a folder that keeps nothing makes what is made from scratch
pub nothing_kept : (folder : Folder) → ((stage : Stage) → files.get folder (keep_name stage) ≡ None)
    → run_over folder ≡ made (hand_of folder)
nothing_kept = keeping.nothing_kept planning planning_laws

-- the made files that are left are those of a run from scratch
pub part_left : (by : Mode) (folder : Folder) (left : Option Folder) → Trusts by folder
    → left ≡ Some (after planning (started by folder))
    → IfSome left (λ left. made_part left ≡ with_files (made (hand_of folder)).files files.empty)
part_left = made_parts.part_left planning planning_laws

-- what holds of runs over all folders
pub chain_laws : ChainLaws
chain_laws = chain_laws_by.chain_laws planning planning_laws
