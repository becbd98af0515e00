-- What a run over what is kept says.
use Rattle.plan_num.proofs.Common.{arith, ◌≡◌, ℕ, ◌+◌, ◌≤◌, List, [], ◌++◌, Option, Some, None}
use Rattle.plan_num.proofs.Common.{IfSome, IfOk, IfErr, OnOk, Result, Ok, Err, ap, sym, subst, ◌∙◌}
use Rattle.plan_num.proofs.Common.{inl, option_map, IfSome_then}
use Rattle.plan_files.specs.declared.write.Write.{Write}
use Rattle.plan_files.proofs.Common.{AreApplied, Counts, Folder}
use Rattle.command_line.specs.declared.mode.Mode.TheVariants as mode
use Rattle.stage_chain.specs.declared.cause.Cause.{Cause}
use Rattle.stage_chain.specs.declared.outcome.ChainFault.{ChainFault}
use Rattle.stage_chain.specs.declared.outcome.ChainFault.TheVariants as fault
use Rattle.stage_chain.specs.declared.outcome.Outcome.{Outcome}
use Rattle.stage_chain.specs.Ends.{has_failed}
use Rattle.stage_chain.specs.Hand.{hand_of}
use Rattle.stage_chain.specs.Kept.{HaveEntries, trace_over}
use Rattle.stage_chain.specs.Progress.{EndGives, SoFar}
use Rattle.stage_chain.specs.Reports.{last_line, end_of}
use Rattle.stage_chain.specs.RunSays.{Finished, KeptRunSays, LeavesBy, SeenFiles, StaysSafe}
use Rattle.stage_chain.specs.Runs.{AddsNoHandFile, AreNotAll, SameHand, after}
use Rattle.stage_chain.specs.Runs.{run_over, writes_of}
use Rattle.stage_chain.specs.Stopped.{AddsHarmless}
use Rattle.stage_chain.proofs.BothModes.{both_scratch, no_writes}
use Rattle.stage_chain.proofs.CheckedRuns.{passes_left}
use Rattle.stage_chain.proofs.FilesLeftAreRight.{left_in}
use Rattle.stage_chain.proofs.FreshKeep.{fresh_left}
use Rattle.stage_chain.proofs.HandAlone.{over_alone}
use Rattle.stage_chain.proofs.HandKept.{writes_outside}
use Rattle.stage_chain.proofs.KeptAfter.{honest_after, none_again}
use Rattle.stage_chain.proofs.Left.{after_is}
use Rattle.stage_chain.proofs.Running.{outcome_in, work_is, writes_are, writes_told}
use Rattle.stage_chain.proofs.StoppedAnywhere.{stays_safe}
use Rattle.stage_chain.proofs.StoppedRuns.{adds_all, adds_none, adds_some}
use Rattle.stage_chain.proofs.StoppedRuns.{run_harmless}
use Rattle.stage_chain.specs.StageParts.{StageParts}
use Rattle.stage_chain.specs.Laws.{AreStages}

-- the faults that a part of a run counted are those of the run that ends at its fault
pub same_counts : (T U : Type 0) (failed : ChainFault) (before now : ℕ)
    → Counts (has_failed {T = T} (Err failed)) before now → Counts (has_failed {T = U} (Err failed)) before now
same_counts T U fault.FileFault before now h = h
same_counts T U fault.NoMemory before now h = h

-- a call that only read leaves hand files as they were, and names none
read_hand : (old new : Option Folder) → new ≡ old → SameHand old new
read_hand old new same = ap (option_map hand_of) same

read_names : (before now : Option (List Write)) → now ≡ before → AddsNoHandFile before now
read_names before now same = record { added = []; noted = same ∙ sym (no_writes before); apart = tt }

module _ (S : StageParts) (laws : AreStages S) where
  -- what a finished run left
  finished : (old new : SeenFiles) (folder : Folder)
      → AreApplied (writes_of S folder) (Some folder) new.contents old.writes new.writes
      → HaveEntries folder (trace_over S folder (hand_of folder)).visits
      → new.steps ≡ old.steps + (run_over S folder).work → Finished S mode.Make old new folder
  finished old new folder all have steps =
      let left : new.contents ≡ Some (after S folder) = all.folder ∙ ap Some (after_is S laws folder) in
      record {
        files = record { folder = left; writes = all.noted };
        steps = steps;
        scratch = both_scratch S laws mode.Make folder;
        right = λ honest. left_in S laws folder new.contents honest left;
        keep = λ honest. grind (arith, honest_after);
        passes = passes_left S laws mode.Make folder new.contents left;
        fresh = fresh_left S laws mode.Make folder new.contents left;
        again = grind (arith, none_again);
      }

  module _ (old new : SeenFiles) where
    -- what is left over a folder, and that the writes are safe and harmless
    record Left (folder : Folder) (result : Result Outcome ChainFault) : Type 0 where
      leaves : LeavesBy S mode.Make old new folder result
      safe : StaysSafe S mode.Make old new folder
      harmless : AddsHarmless S folder new.contents old.writes new.writes

    abbrev IsLeftIn : Option Folder → Result Outcome ChainFault → Type 0
    IsLeftIn contents result = IfSome contents (λ folder. Left folder result)

    said : (result : Result Outcome ChainFault) → IsLeftIn old.contents result
        → SameHand old.contents new.contents → AddsNoHandFile old.writes new.writes
        → old.steps ≤ new.steps → Counts (has_failed result) old.faults new.faults
        → KeptRunSays S old new result
    said result left hand apart steps counts = grind (arith, IfSome_then)

    module _ (so_far : SoFar) where
      abbrev Ended : Folder → Result (Option Cause) ChainFault → Type 0
      Ended folder end = EndGives S folder (trace_over S folder folder) so_far old.steps new.steps end

      -- the chain ended at a fault, and nothing was written
      pub read_says : (T : Type 0) (failed : ChainFault) (result : Result Outcome ChainFault) → result ≡ Err failed
          → new.contents ≡ old.contents → new.writes ≡ old.writes
          → Counts (has_failed {T = T} (Err failed)) old.faults new.faults → old.steps ≤ new.steps
          → IfSome old.contents (λ folder. Ended folder (Err failed)) → KeptRunSays S old new result
      read_says T failed result is same kept counts steps ends =
          subst (KeptRunSays S old new) (sym is)
          (said (Err failed) (each old.contents same ends) (read_hand old.contents new.contents same)
          (read_names old.writes new.writes kept) steps (same_counts T Outcome failed old.faults new.faults counts))
        where
          each : (contents : Option Folder) → new.contents ≡ contents
              → IfSome contents (λ folder. Ended folder (Err failed)) → IsLeftIn contents (Err failed)
          each None same ends = tt
          each (Some folder) same ends =
              let harmless = adds_none S laws folder new.contents old.writes new.writes same kept in
              let is = work_is S laws folder in
              let most : new.steps ≤ old.steps + (run_over S folder).work = omega (arith, ends.1, is) in
              record {
                leaves = inl (same, kept);
                safe = stays_safe S laws mode.Make old new folder harmless most;
                harmless = harmless;
              }

      -- it ended, its outcome was told, and its writes were made, or not all of them
      module _ (why : Option Cause) where
        abbrev AllMade : Folder → Option (List Write) → Result Outcome ChainFault → Type 0
        AllMade folder noted result =
            OnOk result (AreApplied (writes_told S laws folder so_far) (Some folder) new.contents noted new.writes)

        abbrev SomeMade : Folder → Option (List Write) → Result Outcome ChainFault → Type 0
        SomeMade folder noted result = IfErr result (λ failed.
            AreNotAll failed (writes_told S laws folder so_far) (Some folder) new.contents noted new.writes)

        abbrev Told : Result Outcome ChainFault → Type 0
        Told result = IfOk result (λ (outcome : Outcome). outcome.report ≡ so_far.report ++ last_line why)
            × IfOk result (λ (outcome : Outcome). outcome.end ≡ end_of why)

        abbrev Made : Option Folder → Option (List Write) → ℕ → Result Outcome ChainFault → Type 0
        Made contents noted faults result = IfSome contents (λ folder. AllMade folder noted result)
            × IfSome contents (λ folder. SomeMade folder noted result) × SameHand contents new.contents
            × AddsNoHandFile noted new.writes × Counts (has_failed result) faults new.faults

        module _ (folder : Folder) (ends : Ended folder (Ok why)) where
          work : new.steps ≡ old.steps + (run_over S folder).work
          work = ends.2 ∙ ap (λ work. old.steps + work) (sym (work_is S laws folder))

          most : new.steps ≤ old.steps + (run_over S folder).work
          most = omega (arith, work)

          entries : HaveEntries folder (trace_over S folder (hand_of folder)).visits
          entries = grind (arith, over_alone)

          left_by : (result : Result Outcome ChainFault) → Told result → AllMade folder old.writes result
              → SomeMade folder old.writes result → Left folder result
          left_by (Ok outcome) told all some =
              let made = subst
              (λ writes. AreApplied writes (Some folder) new.contents old.writes new.writes)
              (writes_are S laws folder so_far ends.1) all in
              let harmless = adds_all S laws (writes_of S folder) folder new.contents old.writes new.writes
              (run_harmless S laws folder entries) (writes_outside S laws folder) made in
              record {
                leaves = (
                  outcome_in S laws folder so_far why outcome ends.0 ends.1 told.0 told.1,
                  finished old new folder made entries work,
                );
                safe = stays_safe S laws mode.Make old new folder harmless most;
                harmless = harmless;
              }
          left_by (Err failed) told all some =
              let cut = subst
              (λ writes. AreNotAll failed writes (Some folder) new.contents old.writes new.writes)
              (writes_are S laws folder so_far ends.1) some in
              let harmless = adds_some S laws (writes_of S folder) folder new.contents old.writes new.writes
              (run_harmless S laws folder entries) (writes_outside S laws folder) failed cut in
              record {
                leaves = cut;
                safe = stays_safe S laws mode.Make old new folder harmless most;
                harmless = harmless;
              }

        pub made_says : (result : Result Outcome ChainFault) (contents : Option Folder)
            (noted : Option (List Write)) (faults : ℕ) → contents ≡ old.contents → noted ≡ old.writes
            → faults ≡ old.faults → old.steps ≤ new.steps
            → IfSome old.contents (λ folder. Ended folder (Ok why)) → Told result
            → Made contents noted faults result → KeptRunSays S old new result
        made_says result contents noted faults same kept counted steps ends told made =
            let all = subst (λ contents. Made contents old.writes old.faults result) same
            (subst (λ noted. Made contents noted old.faults result) kept
            (subst (λ faults. Made contents noted faults result) counted made)) in
            said result (each old.contents ends all.0 all.1) all.2 all.3 steps all.4
          where
            each : (contents : Option Folder) → IfSome contents (λ folder. Ended folder (Ok why))
                → IfSome contents (λ folder. AllMade folder old.writes result)
                → IfSome contents (λ folder. SomeMade folder old.writes result) → IsLeftIn contents result
            each None ends all some = tt
            each (Some folder) ends all some = left_by folder ends result told all some
