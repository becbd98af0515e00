-- A run is what its hand files and what is kept determine.
use Rattle.plan_num.proofs.Common.{◌≡◌, List, ◌++◌, Option, Some, None, refl, ap, sym, ◌∙◌}
use Rattle.plan_num.proofs.Common.{append_assoc, arith, option_map}
use Rattle.plan_files.specs.declared.write.Write.{Write}
use Rattle.plan_files.proofs.Common.{Folder, outside_both}
use Rattle.stage_chain.specs.declared.outcome.Outcome.{Outcome}
use Rattle.stage_chain.specs.declared.cause.Cause.{Cause}
use Rattle.stage_chain.specs.Built.{RunParts, cause_of, told_by}
use Rattle.stage_chain.specs.Chain.{Trace}
use Rattle.stage_chain.specs.Kept.{made_over, new_entries, trace_over, work_over}
use Rattle.stage_chain.specs.Progress.{SoFar, IsAll, trace_work}
use Rattle.stage_chain.specs.Reports.{last_line, end_of}
use Rattle.stage_chain.specs.Runs.{AddsNoHandFile, IsOutcome, entries_over}
use Rattle.stage_chain.specs.Runs.{run_over, unmet, writes_for, writes_of}
use Rattle.stage_chain.proofs.HandAlone.{over_alone}
use Rattle.stage_chain.specs.StageParts.{StageParts}
use Rattle.stage_chain.specs.Laws.{AreStages}

module _ (S : StageParts) (laws : AreStages S) where
  -- what a run makes is what the chain over the folder tells
  made_is : (folder : Folder) → run_over S folder ≡ told_by (work_over S folder) (trace_over S folder folder)
  unfolding made_over
  made_is folder = ap (told_by (work_over S folder)) (over_alone S laws folder folder)

  pub work_is : (folder : Folder) → (run_over S folder).work ≡ trace_work S folder (trace_over S folder folder)
  work_is folder = ap (λ (run : RunParts). run.work) (made_is folder)

  files_are : (folder : Folder) (so_far : SoFar) → IsAll S folder (trace_over S folder folder) so_far
      → (run_over S folder).files ≡ so_far.files
  files_are folder so_far h = ap (λ (run : RunParts). run.files) (made_is folder) ∙ h.files

  entries_are : (folder : Folder) (so_far : SoFar) → IsAll S folder (trace_over S folder folder) so_far
      → entries_over S folder ≡ so_far.entries
  unfolding entries_over
  entries_are folder so_far h =
      ap (λ (trace : Trace). new_entries folder trace.visits) (over_alone S laws folder folder) ∙ h.entries

  -- the writes of the code are those of the run
  abbrev pub writes_told : Folder → SoFar → List Write
  writes_told folder so_far = unmet folder (writes_for S so_far.files) ++ so_far.entries

  pub writes_are : (folder : Folder) (so_far : SoFar) → IsAll S folder (trace_over S folder folder) so_far
      → writes_told folder so_far ≡ writes_of S folder
  unfolding writes_of
  writes_are folder so_far h =
      ap (λ files. unmet folder (writes_for S files) ++ so_far.entries) (sym (files_are folder so_far h))
      ∙ ap (λ entries. unmet folder (writes_for S (run_over S folder).files) ++ entries)
      (sym (entries_are folder so_far h))

  -- the outcome
  pub outcome_in : (folder : Folder) (so_far : SoFar) (why : Option Cause) (outcome : Outcome)
      → cause_of (trace_over S folder folder).halt ≡ why → IsAll S folder (trace_over S folder folder) so_far
      → outcome.report ≡ so_far.report ++ last_line why → outcome.end ≡ end_of why
      → IsOutcome (run_over S folder) outcome
  outcome_in folder so_far why outcome ends all report end = grind (arith, made_is)

-- some writes are noted, and then others
pub noted_both : (before : Option (List Write)) (writes more : List Write)
    → option_map (λ noted. noted ++ more) (option_map (λ noted. noted ++ writes) before)
    ≡ option_map (λ noted. noted ++ (writes ++ more)) before
noted_both None writes more = refl
noted_both (Some noted) writes more = ap Some (append_assoc noted writes more)

pub adds_both : (before mid now : Option (List Write)) → AddsNoHandFile before mid
    → AddsNoHandFile mid now → AddsNoHandFile before now
adds_both before mid now first more = grind (arith, noted_both, outside_both)
