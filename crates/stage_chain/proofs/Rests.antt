-- A chain is what was made so far, and then the rest of it.
use Rattle.plan_num.proofs.Common.{ℕ, ◌≡◌, ◌+◌, ◌++◌, sum_by}
use Rattle.plan_files.proofs.Common.{Folder}
use Rattle.stage_chain.specs.Built.{files_of}
use Rattle.stage_chain.specs.Chain.{Trace, handed}
use Rattle.stage_chain.specs.Kept.{HaveEntries, new_entries, work_over}
use Rattle.stage_chain.specs.Progress.{SoFar}
use Rattle.stage_chain.specs.Reports.{stage_lines}
use Rattle.stage_chain.specs.StageParts.{StageParts}

-- The count of steps rose from one value to another by the work so far.
module _ (S : StageParts) (keep : Folder) where
  pub record IsRest (whole rest : Trace) (so_far : SoFar) (before now : ℕ) : Type 0 where
    pub files : files_of whole.visits ≡ so_far.files ++ files_of rest.visits
    pub report : stage_lines whole.visits ≡ so_far.report ++ stage_lines rest.visits
    pub entries : new_entries keep whole.visits ≡ so_far.entries ++ new_entries keep rest.visits
    pub have : HaveEntries keep rest.visits → HaveEntries keep whole.visits
    pub steps : before + sum_by (work_over S keep) (handed whole)
        ≡ now + sum_by (work_over S keep) (handed rest)
    pub halt : whole.halt ≡ rest.halt
