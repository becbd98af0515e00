-- A demo makes what is made of its dataset from scratch.
use Rattle.plan_num.proofs.Common.{◌≡◌, ℕ, ◌+◌, ◌≤◌, false, List, ◌++◌, take, Option, Some, None}
use Rattle.plan_num.proofs.Common.{refl, ap, ◌∙◌, arith, inl, inr, slice_cmp, option_map, nat_cmp}
use Rattle.std.specs.FinMap as files
use Rattle.plan_files.proofs.Common.{Rose, Folder}
use Rattle.giv_files.specs.declared.stage.Stage.{Stage}
use Rattle.giv_files.specs.declared.stage.Stage.TheVariants as stage
use Rattle.stage_keep.specs.Entries.{keep_name}
use Rattle.demo_dataset.specs.Demo.{demo_folder, demo_writes}
use Rattle.command_line.specs.declared.mode.Mode.TheVariants as mode
use Rattle.stage_chain.proofs.Wishes.{get_behind, names_in}
use Rattle.stage_chain.specs.Built.{RunParts}
use Rattle.stage_chain.specs.Hand.{hand_of, is_among}
use Rattle.stage_driver.proofs.Planned.{nothing_kept}
use Rattle.stage_driver.specs.PlanningChain.{made, run_over}
use Rattle.command_line.specs.declared.status.Status.{Status}
use Rattle.command_line.specs.declared.status.Status.TheVariants.{Done, Usage, BadInput, NoSolution}
use Rattle.command_line.specs.declared.status.Status.TheVariants.{Spent, FileFault, SinkFault}
use Rattle.command_line.specs.declared.status.Status.TheVariants.{NoMemory, Uncertified}
use Rattle.command_line.specs.declared.command.Command.TheVariants as command
use Rattle.command_line.specs.Statuses.{status_of}
use Rattle.lintim_cli.specs.Answers.{AnswersTo}
use Rattle.lintim_cli.specs.Top.{DemoTells, FileBroke, Leaves, Seen, demo_run}

-- no file of a demo dataset is one in which a stage keeps what it made
kept_apart : (number : ℕ) (at : Stage)
    → is_among (keep_name at) (names_in (demo_writes number)) ≡ false
kept_apart number stage.Load = refl
kept_apart number _ = refl

no_keep : (number : ℕ) (at : Stage) → files.get (demo_folder number) (keep_name at) ≡ None
no_keep number at =
    get_behind (demo_writes number) files.empty (keep_name at) (kept_apart number at)
    ∙ files.get-empty (slice_cmp nat_cmp) (keep_name at)

-- files in memory that never fail answer no fault
pub no_fault : (old new : Option (List ℕ)) (out_before out_now : ℕ)
    → FileBroke 0 0 old new out_before out_now → ⊥
no_fault old new out_before out_now broke = by broke.raised.rose
  where
    by : Rose 0 0 → ⊥
    by (inl less) = omega (arith, less)
    by (inr last) = omega (arith, last)

module _ (number : ℕ) (folder : Folder) (is : folder ≡ demo_folder number) where
  run_is : run_over folder ≡ demo_run number
  run_is =
      nothing_kept folder (λ at. ap (λ folder. files.get folder (keep_name at)) is ∙ no_keep number at)
      ∙ ap (λ folder. made (hand_of folder)) is

  module _ (seen_before seen_after : Seen) where
    abbrev Left : Status → Type 0
    Left result = Leaves mode.Make folder seen_before seen_after result

    abbrev old : Option (List ℕ)
    old = seen_before.out

    abbrev new : Option (List ℕ)
    new = seen_after.out

    abbrev before : ℕ
    before = seen_before.files.steps

    abbrev now : ℕ
    now = seen_after.files.steps

    pub steps_are : now ≡ before + (run_over folder).work → now ≡ before + (demo_run number).work
    steps_are e = e ∙ ap (λ (run : RunParts). before + run.work) run_is

    all : (result : Status)
        → (result ≡ status_of (run_over folder).end)
        × (new ≡ option_map (λ bytes. bytes ++ (run_over folder).report) old) × (now ≡ before + (run_over folder).work)
        → (result ≡ status_of (demo_run number).end)
        × (new ≡ option_map (λ bytes. bytes ++ (demo_run number).report) old) × (now ≡ before + (demo_run number).work)
    all result (ends, told, steps) = (
      ends ∙ ap (λ (run : RunParts). status_of run.end) run_is,
      told ∙ ap (λ (run : RunParts). option_map (λ bytes. bytes ++ run.report) old) run_is,
      steps_are steps,
    )

    -- what a run leaves tells what a demo is to tell
    pub demo_tells : (result : Status) → Left result → (result ≡ FileFault → ⊥)
        → now ≤ before + (run_over folder).work → DemoTells number old new before now result
    demo_tells Done h never most = all Done (h.0, h.1, h.2.steps)
    demo_tells Usage h never most = all Usage (h.0, h.1, h.2.steps)
    demo_tells BadInput h never most = all BadInput (h.0, h.1, h.2.steps)
    demo_tells NoSolution h never most = all NoSolution (h.0, h.1, h.2.steps)
    demo_tells Spent h never most = all Spent (h.0, h.1, h.2.steps)
    demo_tells Uncertified h never most = all Uncertified (h.0, h.1, h.2.steps)
    demo_tells FileFault h never most = never refl
    demo_tells NoMemory h never most =
        let e = ap (λ (run : RunParts). run.work) run_is in omega (arith, most, e)
    demo_tells SinkFault h never most = (
      (h.0.0, h.0.1 ∙ ap (λ (run : RunParts). option_map (λ bytes. bytes ++ take h.0.0 run.report) old) run_is),
      steps_are h.1.steps,
    )

-- the answers of a demo are those of a run but for the fault of a file
pub demo_answers : (number : ℕ) (result : Status) → AnswersTo (Some (command.Run mode.Make)) result
    → (result ≡ FileFault → ⊥) → AnswersTo (Some (command.Demo number)) result
demo_answers number Done h never = tt
demo_answers number Usage h never = absurd h
demo_answers number BadInput h never = tt
demo_answers number NoSolution h never = tt
demo_answers number Spent h never = tt
demo_answers number FileFault h never = absurd (never refl)
demo_answers number SinkFault h never = tt
demo_answers number NoMemory h never = tt
demo_answers number Uncertified h never = absurd h
