-- The writes of a run are harmless, and so it may be stopped anywhere.
use Rattle.plan_num.proofs.Common.{arith, ◌≡◌, ℕ, ℤ, Bool, true, cond, not, is_some, List, [], ◌∷◌}
use Rattle.plan_num.proofs.Common.{◌++◌, map, filter, take, drop, Option, Some, None, IfSome, Ok}
use Rattle.plan_num.proofs.Common.{refl, ap, sym, subst, ◌∙◌, inl, ⊎_elim, append-nil, option_map}
use Rattle.plan_num.proofs.Common.{bytes_eq, and_parts, false≢true, take-append-drop}
use Rattle.plan_num.proofs.Common.{bytes_eq-Decides}
use Rattle.plan_files.specs.declared.write.Write.{Write}
use Rattle.plan_files.specs.declared.write.Write.TheVariants.{Removal}
use Rattle.plan_files.proofs.Common.{AreApplied, AreCutShort, LeftBy, folder_after, Folder}
use Rattle.plan_files.proofs.Common.{AreOutside, outside_both, outside_front}
use Rattle.giv_files.specs.declared.made.Made.{Made}
use Rattle.giv_files.specs.declared.made.MadeFile.{MadeFile}
use Rattle.giv_files.specs.declared.stage.Stage.{Stage}
use Rattle.giv_files.proofs.Common.{Fits}
use Rattle.config_keys.proofs.Common.{AreSettings, look_in, effective_settings}
use Rattle.stage_keep.specs.Entries.{entry_for, keep_name}
use Rattle.stage_keep.specs.EntryReading.{read_entry}
use Rattle.stage_keep.specs.Honest.{IsHonest}
use Rattle.stage_keep.proofs.EntriesRead.{entries_are_read_back}
use Rattle.stage_keep.proofs.Honesty.{fronts_are_honest, read_is_honest}
use Rattle.stage_chain.specs.declared.outcome.ChainFault.{ChainFault}
use Rattle.stage_chain.specs.declared.outcome.ChainFault.TheVariants as fault
use Rattle.command_line.specs.declared.mode.Mode.{Mode}
use Rattle.command_line.specs.declared.mode.Mode.TheVariants as mode
use Rattle.stage_chain.specs.Built.{files_of}
use Rattle.stage_chain.specs.Chain.{Halt, Visit, input_text}
use Rattle.stage_chain.specs.Ends.{file_fault_of}
use Rattle.stage_chain.specs.Hand.{hand_of, is_hand, keep_names}
use Rattle.stage_chain.specs.Kept.{HasEntry, HaveEntries, IsKeptHonest, entry_put, kept_in}
use Rattle.stage_chain.specs.Kept.{made_over, new_entries, new_entry, solve_over, trace_over}
use Rattle.stage_chain.specs.Runs.{AreNotAll, entries_over, is_met, name_of, put_of}
use Rattle.stage_chain.specs.Runs.{removed, unmet, writes_for, writes_of}
use Rattle.stage_chain.specs.Stopped.{AddsHarmless, AreHarmless, IsHarmless}
use Rattle.stage_chain.proofs.KeptAfter.{built_apart_of, bytes_for, not_kept, same_stage}
use Rattle.stage_chain.proofs.Keeping.{solve_makes}
use Rattle.stage_chain.proofs.MadeRight.{given_fits}
use Rattle.stage_chain.proofs.Running.{noted_both}
use Rattle.stage_chain.proofs.Settling.{removals_told}
use Rattle.stage_chain.proofs.Stopping.{IsHonestAt, harmless_both, harmless_parts, made_honest}
use Rattle.stage_chain.proofs.Stopping.{torn_honest}
use Rattle.stage_chain.proofs.Traces.{by_visits, stages_run, traced_over}
use Rattle.stage_chain.proofs.Visits.{AreVisits}
use Rattle.stage_chain.proofs.Wishes.{outside_some}
use Rattle.stage_chain.proofs.WrittenNames.{are_apart}
use Rattle.stage_chain.specs.StageLists.{differs_from}
use Rattle.stage_chain.specs.StageParts.{StageParts}
use Rattle.stage_chain.specs.Laws.{AreStages}

-- ---- an entry and its front parts

some_behind : (byte : ℕ) (behind : List ℕ) → byte ∷ behind ≡ [] → ⊥
some_behind byte behind none = cc

module _ (S : StageParts) (laws : AreStages S) where
  entry_harmless : (visit : Visit) → Fits visit.bundle → HasEntry visit
      → S.run visit.bundle ≡ Ok visit.made → IsHarmless S (entry_put visit.bundle visit.made)
  entry_harmless visit fits entry is = λ at kept same.
      subst (λ at. IsHonest S.run at (take kept (bytes_for visit))) (sym (same_stage at visit.bundle.stage same))
      (by (take kept (bytes_for visit)) (drop kept (bytes_for visit)) (sym (take-append-drop kept (bytes_for visit))))
    where
      by : (front behind : List ℕ) → bytes_for visit ≡ front ++ behind
          → IsHonest S.run visit.bundle.stage front
      by front [] whole =
          let same : bytes_for visit ≡ front = whole ∙ append-nil front in
          read_is_honest S.run visit.bundle visit.made front fits
          (ap (read_entry visit.bundle.stage) (sym same)
          ∙ entries_are_read_back visit.bundle.stage (entry_for visit.bundle visit.made) entry) is
      by front (byte ∷ behind) whole =
          fronts_are_honest S.run visit.bundle.stage (entry_for visit.bundle visit.made) front (byte ∷ behind) entry
          whole (some_behind byte behind)

  -- ---- the writes of made files

  removals_harmless : (names : List (List ℕ)) → AreHarmless S (map Removal names)
  removals_harmless [] = tt
  removals_harmless (name ∷ names) = (tt, removals_harmless names)

  puts_harmless : (files : List MadeFile)
      → ((at : Stage) → differs_from (map name_of files) (keep_name at) ≡ true)
      → AreHarmless S (map put_of files)
  puts_harmless [] apart = tt
  puts_harmless (file ∷ files) apart = (
    λ at kept same. absurd (never (keep_name at) (name_of file) same (and_parts _ _ (apart at)).0),
    puts_harmless files (λ at. (and_parts _ _ (apart at)).1),
  )
    where
      never : (name other : List ℕ) → name ≡ other → not (bytes_eq name other) ≡ true → ⊥
      never name other same h = grind (arith, false≢true, bytes_eq-Decides)

  some_harmless : (p : Write → Bool) (writes : List Write) → AreHarmless S writes
      → AreHarmless S (filter p writes)
  some_harmless p [] h = tt
  some_harmless p (write ∷ writes) h = grind (arith, some_harmless p writes h.1)

  wishes_harmless : (folder : Folder) (made : List MadeFile)
      → ((at : Stage) → differs_from (map name_of made) (keep_name at) ≡ true)
      → AreHarmless S (unmet folder (writes_for S made))
  unfolding writes_for
  wishes_harmless folder made apart =
      grind (arith, some_harmless, harmless_both, puts_harmless, removals_harmless)

  -- ---- the writes of a run

  module _ (keep : Folder) (values : List ℤ) (are : AreSettings values) (hand : Folder) where
    entries_harmless : (before : List MadeFile) (stages : List Stage) (visits : List Visit)
        (halt : Option Halt) → AreVisits (solve_over S keep) values hand before stages visits halt
        → HaveEntries keep visits → AreHarmless S (new_entries keep visits)
    entries_harmless before stages [] halt visited have = tt
    entries_harmless before [] (visit ∷ visits) halt visited have = absurd visited
    entries_harmless before (at ∷ stages) (visit ∷ visits) halt visited have =
        harmless_both S laws (new_entry keep visit) (new_entries keep visits) (by (kept_in keep visit.bundle) refl)
        (entries_harmless (before ++ visit.made.files) stages visits halt visited.1 have.1)
      where
        by : (kept : Option Made) → kept_in keep visit.bundle ≡ kept
            → AreHarmless S (cond (is_some kept) [] (entry_put visit.bundle visit.made ∷ []))
        by (Some made) is = tt
        by None is = (
          entry_harmless visit (given_fits (input_text hand before) values at visit.bundle are visited.0.given)
              (have.0 is) (not_kept S laws keep visit is visited.0.solved),
          tt,
        )

  pub run_harmless : (folder : Folder) → HaveEntries folder (trace_over S folder (hand_of folder)).visits
      → AreHarmless S (writes_of S folder)
  unfolding writes_of entries_over made_over
  run_harmless folder have =
      let visits = (trace_over S folder (hand_of folder)).visits in
      let apart = are_apart S laws folder (hand_of folder) in
      harmless_both S laws (unmet folder (writes_for S (files_of visits))) (new_entries folder visits)
      (wishes_harmless folder (files_of visits)
      (λ at. apart.within (λ name. not (bytes_eq (keep_name at) name)) (built_apart_of S laws at)))
      (traced_over S laws folder (hand_of folder)
      (λ trace. HaveEntries folder trace.visits → AreHarmless S (new_entries folder trace.visits))
      (λ reason is _. tt)
      (λ values is have. entries_harmless folder values (effective_settings (look_in (hand_of folder)) values is)
      (hand_of folder) [] (stages_run S laws values) _ _
      (by_visits S laws (solve_over S folder) (solve_makes S laws folder) values (hand_of folder)) have)
      have)

-- ---- what a call adds

no_more : (before : Option (List Write)) → before ≡ option_map (λ writes. writes ++ []) before
no_more None = refl
no_more (Some writes) = ap Some (sym (append-nil writes))

module _ (S : StageParts) (laws : AreStages S) where
  pub adds_none : (folder : Folder) (left : Option Folder) (before now : Option (List Write))
      → left ≡ Some folder → now ≡ before → AddsHarmless S folder left before now
  adds_none folder left before now same kept = record {
    added = [];
    noted = kept ∙ no_more before;
    harmless = tt;
    apart = tt;
    keep = λ honest. subst (λ left. IfSome left (IsKeptHonest S)) (sym same) honest;
  }

  kept_all : (left : Option Folder) → ((at : Stage) → IfSome left (IsHonestAt S laws at))
      → IfSome left (IsKeptHonest S)
  kept_all None honest = tt
  kept_all (Some left) honest = honest

  module _ (writes : List Write) (folder : Folder) (left : Option Folder) (before now : Option (List Write))
      (harmless : AreHarmless S writes) (apart : AreOutside is_hand writes) where
    pub adds_all : AreApplied writes (Some folder) left before now → AddsHarmless S folder left before now
    adds_all all = record {
      added = writes;
      noted = all.noted;
      harmless = harmless;
      apart = apart;
      keep = λ honest. subst (λ left. IfSome left (IsKeptHonest S)) (sym all.folder)
          (λ at. made_honest S laws at writes folder harmless (inl (honest at)));
    }

    adds_cut : (failed : ChainFault)
        → AreCutShort (file_fault_of failed) writes (Some folder) left before now
        → AddsHarmless S folder left before now
    adds_cut failed cut =
        let parts = harmless_parts S laws cut.made (cut.next ∷ cut.rest) (subst (AreHarmless S) cut.split harmless) in
        record {
          added = cut.made;
          noted = cut.noted;
          harmless = parts.0;
          apart = outside_front is_hand cut.made (cut.next ∷ cut.rest) (subst (AreOutside is_hand) cut.split apart);
          keep = λ honest. kept_all left
              (λ at. by failed at parts.1.0 cut.folder
              (made_honest S laws at cut.made folder parts.0 (inl (honest at))));
        }
      where
        by : (failed : ChainFault) (at : Stage) → IsHarmless S cut.next
            → LeftBy (file_fault_of failed) cut.next (Some (folder_after cut.made folder)) left
            → IsHonestAt S laws at (folder_after cut.made folder) → IfSome left (IsHonestAt S laws at)
        by fault.FileFault at next torn honest =
            torn_honest S laws at cut.next (folder_after cut.made folder) left next torn honest
        by fault.NoMemory at next same honest = grind (arith, IsHonestAt)

    pub adds_some : (fault : ChainFault) → AreNotAll fault writes (Some folder) left before now
        → AddsHarmless S folder left before now
    adds_some fault h =
        ⊎_elim (λ same. adds_none folder left before now same.0 same.1) (adds_cut fault) h

  -- ---- the removals, and then the run

  pub removed_harmless : (by : Mode) (folder : Folder) → AreHarmless S (removed by folder)
  removed_harmless mode.Make folder = tt
  removed_harmless mode.Fresh folder =
      some_harmless S laws (λ write. not (is_met folder write)) (map Removal keep_names)
      (removals_harmless S laws keep_names)

pub removed_outside : (by : Mode) (folder : Folder) → AreOutside is_hand (removed by folder)
removed_outside mode.Make folder = tt
removed_outside mode.Fresh folder =
    outside_some (λ write. not (is_met folder write)) is_hand (map Removal keep_names)
    (removals_told (map Removal keep_names) refl)

module _ (S : StageParts) (laws : AreStages S) where
  pub both_add : (by : Mode) (folder : Folder) (mid left : Option Folder) (before noted now : Option (List Write))
      → AreApplied (removed by folder) (Some folder) mid before noted
      → AddsHarmless S (folder_after (removed by folder) folder) left noted now
      → AddsHarmless S folder left before now
  both_add by folder mid left before noted now first more = record {
    added = removed by folder ++ more.added;
    noted = grind (arith, noted_both);
    harmless = grind (arith, harmless_both, removed_harmless);
    apart = outside_both is_hand (removed by folder) more.added (removed_outside by folder) more.apart;
    keep = λ honest. more.keep
        (λ at. made_honest S laws at (removed by folder) folder (removed_harmless S laws by folder)
        (inl (honest at)));
  }
