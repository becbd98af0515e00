-- What a run says: the removals of a fresh one, and then a run over what is kept.
use Rattle.plan_num.proofs.Common.{arith, ◌≡◌, ◌+◌, ◌≤◌, List, ◌++◌, Option, Some, IfSome, Result}
use Rattle.plan_num.proofs.Common.{Ok, Err, ap, sym, subst, ◌∙◌, inl, option_map, IfSome_then}
use Rattle.plan_files.specs.declared.write.Write.{Write}
use Rattle.plan_files.proofs.Common.{AreApplied, Counts, Folder}
use Rattle.command_line.specs.declared.mode.Mode.{Mode}
use Rattle.command_line.specs.declared.mode.Mode.TheVariants as mode
use Rattle.stage_chain.specs.declared.outcome.ChainFault.{ChainFault}
use Rattle.stage_chain.specs.declared.outcome.Outcome.{Outcome}
use Rattle.stage_chain.specs.Ends.{has_failed}
use Rattle.stage_chain.specs.RunSays.{KeptRunSays, LeavesBy, RunSays, SeenFiles, StaysSafe}
use Rattle.stage_chain.specs.Runs.{AddsNoHandFile, AreNotAll, IsUnfinished, SameHand, removed}
use Rattle.stage_chain.specs.Runs.{run_over, started, writes_of}
use Rattle.stage_chain.specs.Stopped.{AddsHarmless}
use Rattle.stage_chain.proofs.BothModes.{both_scratch, honest_start, no_writes, none_cut, started_hand}
use Rattle.stage_chain.proofs.BothModes.{started_is}
use Rattle.stage_chain.proofs.FreshKeep.{fresh_left}
use Rattle.stage_chain.proofs.KeptRuns.{same_counts}
use Rattle.stage_chain.proofs.Running.{adds_both, noted_both}
use Rattle.stage_chain.proofs.StoppedAnywhere.{stays_safe}
use Rattle.stage_chain.proofs.StoppedRuns.{adds_some, both_add, removed_harmless}
use Rattle.stage_chain.proofs.StoppedRuns.{removed_outside}
use Rattle.stage_chain.specs.StageParts.{StageParts}
use Rattle.stage_chain.specs.Laws.{AreStages}

module _ (S : StageParts) (laws : AreStages S) where
  unfinished : (by : Mode) (failed : ChainFault) (folder : Folder) (left : Option Folder)
      (before noted now : Option (List Write))
      → noted ≡ option_map (λ made. made ++ removed by folder) before
      → AreNotAll failed (writes_of S (started by folder)) (Some (started by folder)) left noted now
      → IsUnfinished S by failed folder left before now
  unfinished mode.Make failed folder left before noted now is cut =
      subst (λ noted. AreNotAll failed (writes_of S folder) (Some folder) left noted now)
      (is ∙ no_writes before) cut
  unfinished mode.Fresh failed folder left before noted now is cut = grind arith

  cut_short : (by : Mode) (failed : ChainFault) (folder : Folder) (left : Option Folder)
      (before now : Option (List Write)) → AreNotAll failed (removed by folder) (Some folder) left before now
      → IsUnfinished S by failed folder left before now
  cut_short mode.Make failed folder left before now cut =
      none_cut (writes_of S folder) failed (Some folder) left before now cut
  cut_short mode.Fresh failed folder left before now cut = inl cut

  -- the removals were not all made
  pub cut_says : (T : Type 0) (by : Mode) (old new : SeenFiles) (failed : ChainFault)
      (result : Result Outcome ChainFault) → result ≡ Err failed
      → IfSome old.contents (λ folder.
      AreNotAll failed (removed by folder) (Some folder) new.contents old.writes new.writes)
      → SameHand old.contents new.contents → AddsNoHandFile old.writes new.writes
      → Counts (has_failed {T = T} (Err failed)) old.faults new.faults → new.steps ≡ old.steps
      → RunSays S by old new result
  cut_says T by old new failed result is cut hand apart counts steps = subst (RunSays S by old new) (sym is) (record {
    leaves = grind (arith, IfSome_then, cut_short);
    safe = IfSome_then old.contents cut (λ folder cut.
        stays_safe S laws by old new folder
        (adds_some S laws (removed by folder) folder new.contents old.writes new.writes
        (removed_harmless S laws by folder) (removed_outside by folder) failed cut) (omega (arith, steps)));
    hand = hand;
    writes_no_hand_file = apart;
    no_less_steps = omega (arith, steps);
    faults = same_counts T Outcome failed old.faults new.faults counts;
  })

  module _ (by : Mode) (old mid new : SeenFiles) where
    -- they were all made
    abbrev IsCleared : Folder → Type 0
    IsCleared folder =
        AreApplied (removed by folder) (Some folder) mid.contents old.writes mid.writes

    module _ (folder : Folder) (cleared : IsCleared folder) where
      -- what holds of the run then holds of the folder over which it went
      over : (P : Folder → Type 0) → IfSome mid.contents P → P (started by folder)
      over P h =
          subst (λ contents. IfSome contents P) (started_is by folder mid.contents old.writes mid.writes cleared) h

      joined : mid.steps ≡ old.steps → (result : Result Outcome ChainFault)
          → LeavesBy S mode.Make mid new (started by folder) result → LeavesBy S by old new folder result
      joined steps (Ok outcome) (told, done) = (
        told,
        record {
          files = record {
            folder = done.files.folder;
            writes =
                done.files.writes
                ∙ ap (option_map (λ noted. noted ++ writes_of S (started by folder))) cleared.noted
                ∙ noted_both old.writes (removed by folder) (writes_of S (started by folder));
          };
          steps = done.steps ∙ ap (λ count. count + (run_over S (started by folder)).work) steps;
          scratch = both_scratch S laws by folder;
          right = λ trusts. grind (arith, started_hand, honest_start);
          keep = λ trusts. done.keep (honest_start S laws by folder trusts);
          passes = λ trusts. done.passes (honest_start S laws by folder trusts);
          fresh = fresh_left S laws by folder new.contents done.files.folder;
          again = done.again;
        },
      )
      joined steps (Err failed) cut = grind (arith, unfinished)

      both_safe : mid.steps ≡ old.steps → StaysSafe S mode.Make mid new (started by folder)
          → IfSome mid.contents (λ folder. AddsHarmless S folder new.contents mid.writes new.writes)
          → StaysSafe S by old new folder
      both_safe steps safe harmless =
          let most : new.steps ≤ mid.steps + (run_over S (started by folder)).work = safe.no_more_steps in
          stays_safe S laws by old new folder
          (both_add S laws by folder mid.contents new.contents old.writes mid.writes new.writes cleared
          (subst (λ contents. IfSome contents (λ folder. AddsHarmless S folder new.contents mid.writes new.writes))
          cleared.folder harmless)) (omega (arith, steps, most))

    pub both_says : (result : Result Outcome ChainFault) → KeptRunSays S mid new result
        → IfSome old.contents IsCleared → mid.faults ≡ old.faults → mid.steps ≡ old.steps
        → SameHand old.contents mid.contents → AddsNoHandFile old.writes mid.writes → RunSays S by old new result
    both_says result kept cleared counted steps hand apart = record {
      leaves = grind (arith, IfSome_then, joined, over);
      safe = IfSome_then old.contents cleared (λ folder cleared.
          both_safe folder cleared steps
          (over folder cleared (StaysSafe S mode.Make mid new) kept.says.safe) kept.harmless);
      hand = kept.says.hand ∙ hand;
      writes_no_hand_file = adds_both old.writes mid.writes new.writes apart kept.says.writes_no_hand_file;
      no_less_steps = let less = kept.says.no_less_steps in omega (arith, less, steps);
      faults = subst (λ before. Counts (has_failed result) before new.faults) counted kept.says.faults;
    }
