-- What a run tells is what is made from scratch.
use Rattle.plan_num.proofs.Common.{◌≡◌, ℕ, List, ◌++◌, take, Option, IfSome, ap, subst, refl, ◌∙◌}
use Rattle.plan_num.proofs.Common.{inl, inr, option_map, IfSome_then}
use Rattle.plan_files.proofs.Common.{Rose, Folder}
use Rattle.command_line.specs.declared.mode.Mode.{Mode}
use Rattle.stage_chain.specs.declared.outcome.Outcome.{Outcome}
use Rattle.command_line.specs.declared.ends.RunEnd.{RunEnd}
use Rattle.command_line.specs.declared.ends.RunEnd.TheVariants as end
use Rattle.stage_chain.specs.Hand.{hand_of}
use Rattle.stage_chain.specs.Runs.{IsOutcome, started}
use Rattle.stage_driver.proofs.Planned.{part_left}
use Rattle.stage_driver.proofs.PlansLeft.{best_left, feasible_left}
use Rattle.stage_driver.proofs.SolvedEnds.{ends_as_solved}
use Rattle.stage_driver.specs.SolvedEnds.{CanBeDone}
use Rattle.stage_driver.specs.PlanningChain.{Finished, Trusts, made, run_over}
use Rattle.command_line.specs.declared.status.Status.{Status}
use Rattle.command_line.specs.declared.status.Status.TheVariants.{Done, Usage, BadInput, NoSolution}
use Rattle.command_line.specs.declared.status.Status.TheVariants.{Spent, FileFault, SinkFault}
use Rattle.command_line.specs.declared.status.Status.TheVariants.{NoMemory, Uncertified}
use Rattle.command_line.specs.Statuses.{status_of}
use Rattle.command_line.specs.Reports.{Reported, Whole}
use Rattle.lintim_cli.specs.Top.{AllOut, AsFromScratch, FileBroke, Headline, IsDone, Leaves, Seen}

-- no run ends with a file fault
no_fault : (ended : RunEnd) → FileFault ≡ status_of ended → ⊥
no_fault end.Done is = cc
no_fault end.BadInput is = cc
no_fault end.NoSolution is = cc
no_fault end.Spent is = cc

module _ (by : Mode) (folder : Folder) (before after : Seen) (outcome : Outcome) (status : Status)
    (told : IsOutcome (run_over (started by folder)) outcome)
    (finished : Finished by before.files after.files folder) (ends : status ≡ status_of outcome.end) where
  abbrev Out : Status → Type 0
  Out result =
      Reported outcome.report status before.out after.out before.sink_faults after.sink_faults result

  abbrev IsWhole : Status → Type 0
  IsWhole result = (result ≡ status)
      × Whole outcome.report before.out after.out before.sink_faults after.sink_faults

  -- ---- what it trusts, it makes as from scratch

  module _ (trusts : Trusts by folder) where
    good : (result : Status) → IsWhole result
        → AsFromScratch folder after.files.contents before.out after.out result
    good result (is, whole) =
        let scratch = finished.scratch trusts in
        let left = finished.files.folder in
        record {
          files = part_left by folder after.files.contents trusts left;
          report = whole.out ∙ ap (λ report. option_map (λ bytes. bytes ++ report) before.out)
              (told.report ∙ scratch.report);
          answer = is ∙ ends ∙ ap status_of (told.end ∙ scratch.end);
          right = finished.right trusts;
          feasible = feasible_left by folder after.files.contents trusts left;
          best = best_left by folder after.files.contents trusts left;
        }

    by_answer : (result : Status) → Out result
        → Headline folder after.files.contents before.out after.out result
    by_answer Done out = good Done out
    by_answer Usage out = good Usage out
    by_answer BadInput out = good BadInput out
    by_answer NoSolution out = good NoSolution out
    by_answer Spent out = good Spent out
    by_answer FileFault out = tt
    by_answer SinkFault out = tt
    by_answer NoMemory out = tt
    by_answer Uncertified out = good Uncertified out

  -- ---- what is told and left by the answer

  done : (result : Status) → IsWhole result
      → (result ≡ status_of (run_over (started by folder)).end) × AllOut by folder before.out after.out
      × Finished by before.files after.files folder
  done result (is, whole) = (
    is ∙ ends ∙ ap status_of told.end,
    whole.out ∙ ap (λ report. option_map (λ bytes. bytes ++ report) before.out) told.report,
    finished,
  )

  leaves_by : (result : Status) → Out result → Leaves by folder before after result
  leaves_by Done out = done Done out
  leaves_by Usage out = done Usage out
  leaves_by BadInput out = done BadInput out
  leaves_by NoSolution out = done NoSolution out
  leaves_by Spent out = done Spent out
  leaves_by Uncertified out = done Uncertified out
  leaves_by FileFault out = absurd (no_fault outcome.end (out.0 ∙ ends))
  leaves_by NoMemory out = inr (inr finished)
  leaves_by SinkFault broken = (
    (
      broken.out.0,
      broken.out.1
          ∙ ap (λ report. option_map (λ bytes. bytes ++ take broken.out.0 report) before.out) told.report,
    ),
    finished,
  )

-- both, where a run has an outcome
module _ (by : Mode) (before after : Seen) (outcome : Outcome) (status result : Status)
    (left : IfSome before.files.contents (λ folder.
    IsOutcome (run_over (started by folder)) outcome × Finished by before.files after.files folder))
    (ends : status ≡ status_of outcome.end) (text : List ℕ) (same : text ≡ outcome.report)
    (out : Reported text status before.out after.out before.sink_faults after.sink_faults result) where
  out_is : Reported outcome.report status before.out after.out before.sink_faults after.sink_faults result
  out_is =
      subst (λ text. Reported text status before.out after.out before.sink_faults after.sink_faults result) same out

  pub headline : IfSome before.files.contents (λ folder.
      Trusts by folder → Headline folder after.files.contents before.out after.out result)
  headline = IfSome_then before.files.contents left (λ folder both trusts.
      by_answer by folder before after outcome status both.0 both.1 ends trusts result out_is)

  pub told_leaves : IfSome before.files.contents (λ folder. Leaves by folder before after result)
  told_leaves = IfSome_then before.files.contents left (λ folder both.
      leaves_by by folder before after outcome status both.0 both.1 ends result out_is)

-- ---- a run that can be done is done

-- done, unless memory was refused or a count of faults rose
done_by : (read : Folder) (left : Option Folder) (before after : Seen) (result : Status)
    → (made (hand_of read)).end ≡ end.Done → Headline read left before.out after.out result
    → (result ≡ FileFault → Rose before.files.faults after.files.faults)
    → (result ≡ SinkFault → Rose before.sink_faults after.sink_faults) → IsDone before after result
done_by read left before after Done is told file sink = inl refl
done_by read left before after NoMemory is told file sink = inr (inl refl)
done_by read left before after FileFault is told file sink = inr (inr (inl (file refl)))
done_by read left before after SinkFault is told file sink = inr (inr (inr (sink refl)))
done_by read left before after Usage is told file sink = absurd (let both = told.answer ∙ ap status_of is in cc)
done_by read left before after BadInput is told file sink = absurd (let both = told.answer ∙ ap status_of is in cc)
done_by read left before after NoSolution is told file sink = absurd (let both = told.answer ∙ ap status_of is in cc)
done_by read left before after Spent is told file sink = absurd (let both = told.answer ∙ ap status_of is in cc)
done_by read left before after Uncertified is told file sink = absurd (let both = told.answer ∙ ap status_of is in cc)

pub is_done : (by : Mode) (left : Option Folder) (before after : Seen) (result : Status)
    → IfSome before.files.contents (λ folder. Trusts by folder → Headline folder left before.out after.out result)
    → (result ≡ FileFault
    → FileBroke before.files.faults after.files.faults before.out after.out before.sink_faults after.sink_faults)
    → (result ≡ SinkFault → Rose before.sink_faults after.sink_faults)
    → IfSome before.files.contents
    (λ folder. Trusts by folder → CanBeDone (hand_of folder) → IsDone before after result)
is_done by left before after result headline file sink =
    IfSome_then before.files.contents headline (λ folder headline trusts can.
    done_by folder left before after result ((ends_as_solved (hand_of folder)).done can) (headline trusts)
    (λ is. (file is).raised.rose) sink)
