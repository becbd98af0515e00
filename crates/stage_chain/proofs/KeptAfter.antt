-- What a run keeps is honest, and a further run over it makes the same and writes nothing.
use Rattle.plan_num.proofs.Common.{arith, ◌≡◌, ℕ, ℤ, Bool, true, false, cond, not, is_some, List}
use Rattle.plan_num.proofs.Common.{[], ◌∷◌, ◌++◌, map, Option, Some, None, Result, Ok, Err, refl}
use Rattle.plan_num.proofs.Common.{ap, sym, subst, ◌∙◌, inl, ⊎_elim, ⊤, bytes_eq, and_parts}
use Rattle.plan_num.proofs.Common.{bytes_eq-Decides, and_from}
use Rattle.std.specs.FinMap as files
use Rattle.plan_files.proofs.Common.{after_write, folder_after, Folder, get_part, folder_after_both}
use Rattle.plan_files.proofs.Common.{get_written}
use Rattle.giv_files.specs.declared.made.Made.{Made}
use Rattle.giv_files.specs.declared.made.MadeFile.{MadeFile}
use Rattle.giv_files.specs.declared.stage.Stage.{Stage}
use Rattle.giv_files.proofs.Common.{Fits, all_stages}
use Rattle.tables.specs.declared.refusal.Refusal.{Refusal}
use Rattle.giv_files.specs.declared.stage.Stage.TheVariants as stage
use Rattle.config_keys.specs.declared.config_fault.ConfigFault.{ConfigFault}
use Rattle.config_keys.proofs.Common.{AreSettings, look_in, effective, effective_settings}
use Rattle.stage_keep.specs.Entries.{entry_bytes, entry_for, keep_name}
use Rattle.stage_keep.specs.EntryReading.{read_entry}
use Rattle.stage_keep.specs.Honest.{IsHonest, kept_for}
use Rattle.stage_keep.proofs.EntriesRead.{entries_are_read_back}
use Rattle.stage_keep.proofs.Honesty.{own_kept, read_is_honest}
use Rattle.stage_chain.specs.Built.{chain_under, files_of}
use Rattle.stage_chain.specs.Chain.{Halt, Visit, chain_from, input_text}
use Rattle.stage_chain.specs.Chain.{visit_of}
use Rattle.stage_chain.specs.Hand.{hand_of, names_made_by}
use Rattle.stage_chain.specs.Kept.{HaveEntries, IsKeptHonest, HasEntry, entry_put, kept_in}
use Rattle.stage_chain.specs.Kept.{kept_or, made_over, new_entries, new_entry, solve_over, trace_over}
use Rattle.stage_chain.specs.Runs.{after, entries_over, name_of, with_files}
use Rattle.stage_chain.specs.Runs.{without_made, writes_for, writes_of}
use Rattle.stage_chain.proofs.Differing.{not_among}
use Rattle.stage_chain.proofs.Keeping.{solve_makes}
use Rattle.stage_chain.proofs.Left.{other_with, writes_leave}
use Rattle.stage_chain.proofs.FilesLeftAreRight.{hand_after}
use Rattle.stage_chain.proofs.MadeRight.{given_fits}
use Rattle.stage_chain.proofs.Traces.{by_visits, stages_run, traced_over}
use Rattle.stage_chain.proofs.Visits.{AreVisits, IsHalt, IsVisit, bundle_stage}
use Rattle.stage_chain.proofs.Wishes.{Alike, AreMet, alike_after, get_behind, met_after, met_behind}
use Rattle.stage_chain.proofs.Wishes.{names_in, none_unmet}
use Rattle.stage_chain.proofs.WrittenNames.{are_apart, entries_within, files_apart}
use Rattle.stage_chain.proofs.WrittenNames.{files_differ, run_apart}
use Rattle.stage_chain.specs.StageLists.{differing, differs_from}
use Rattle.stage_chain.specs.StageParts.{StageParts}
use Rattle.stage_chain.specs.Laws.{AreStages}
use Rattle.stage_chain.specs.StageLists.{is_kept_name}
use Rattle.stage_chain.proofs.WrittenNames.{apart_by, own_keep}
use Rattle.stage_chain.proofs.Differing.{differ_swap}

-- ---- the name under which a stage keeps tells the stage

named_stage : List ℕ → List Stage → Stage
named_stage name [] = stage.Load
named_stage name (at ∷ stages) = cond (bytes_eq name (keep_name at)) at (named_stage name stages)

stage_named : (at : Stage) → named_stage (keep_name at) all_stages ≡ at
unfolding named_stage
stage_named stage.Load = refl
stage_named _ = refl

pub same_stage : (at other : Stage) → keep_name at ≡ keep_name other → at ≡ other
same_stage at other same =
    sym (stage_named at) ∙ ap (λ name. named_stage name all_stages) same ∙ stage_named other

module _ (S : StageParts) (laws : AreStages S) where
  -- ---- what is kept is where it was, apart from new entries

  -- no stage keeps under the name of a made file
  pub built_apart_of : (at : Stage) → differs_from (names_made_by S.places) (keep_name at) ≡ true
  built_apart_of at =
      let names = names_made_by S.places in
      let out = apart_by is_kept_name names (keep_name at ∷ []) laws.list.no_keep (and_from _ _ (own_keep at) refl) in
      (and_parts _ _ (differ_swap names (keep_name at ∷ []) out)).0

  module _ (folder : Folder) where
    abbrev pub run_visits : List Visit
    run_visits = (trace_over S folder (hand_of folder)).visits

    abbrev pub made_base : Folder
    made_base = with_files (files_of run_visits) (without_made S folder)

    pub base_keeps : (at : Stage) → files.get made_base (keep_name at) ≡ files.get folder (keep_name at)
    base_keeps at =
        let apart = are_apart S laws folder (hand_of folder) in
        let out = not_among (map name_of (files_of run_visits)) (keep_name at)
        (apart.within (λ name. not (bytes_eq (keep_name at) name)) (built_apart_of at)) in grind
        (arith, other_with, get_part, not_among, built_apart_of)

    alike_base : (stages : List Stage) → Alike made_base folder (map keep_name stages)
    alike_base [] = tt
    alike_base (at ∷ stages) = (base_keeps at, alike_base stages)

  -- ---- what is kept stays honest

  -- a stage that was made and not kept makes what its entry says
  pub not_kept : (keep : Folder) (visit : Visit) → kept_in keep visit.bundle ≡ None
      → solve_over S keep visit.bundle ≡ Ok visit.made → S.run visit.bundle ≡ Ok visit.made
  unfolding solve_over
  not_kept keep visit none is =
      ap (λ kept. kept_or kept (S.run visit.bundle)) (sym none) ∙ is

-- the bytes of the entry of a stage that was made
abbrev pub bytes_for : Visit → List ℕ
bytes_for visit = entry_bytes visit.bundle.stage (entry_for visit.bundle visit.made)

-- an entry is read back
read_back : (visit : Visit) → HasEntry visit
    → read_entry visit.bundle.stage (bytes_for visit) ≡ Some (entry_for visit.bundle visit.made)
read_back visit entry =
    entries_are_read_back visit.bundle.stage (entry_for visit.bundle visit.made) entry

module _ (S : StageParts) (laws : AreStages S) where
  put_honest : (base : Folder) (visit : Visit) → Fits visit.bundle → HasEntry visit
      → S.run visit.bundle ≡ Ok visit.made → IsKeptHonest S base
      → IsKeptHonest S (after_write (entry_put visit.bundle visit.made) base)
  put_honest base visit fits entry is honest =
      λ at bytes there. by at bytes (bytes_eq (keep_name at) (keep_name visit.bundle.stage)) refl
      (sym (get_written (entry_put visit.bundle visit.made) base (keep_name at)) ∙ there)
    where
      by : (at : Stage) (bytes : List ℕ) (here : Bool)
          → bytes_eq (keep_name at) (keep_name visit.bundle.stage) ≡ here
          → cond here (Some (bytes_for visit)) (files.get base (keep_name at)) ≡ Some bytes
          → IsHonest S.run at bytes
      by at bytes true same there =
          let own : visit.bundle.stage ≡ at = sym (same_stage at visit.bundle.stage
          ((bytes_eq-Decides (keep_name at) (keep_name visit.bundle.stage)).0 same)) in
          let text : bytes_for visit ≡ bytes = cc in
          subst (λ at. IsHonest S.run at bytes) own (subst (λ bytes. IsHonest S.run visit.bundle.stage bytes) text
          (read_is_honest S.run visit.bundle visit.made (bytes_for visit) fits (read_back visit entry) is))
      by at bytes false same there = honest at bytes there

  module _ (keep : Folder) (values : List ℤ) (are : AreSettings values) (hand : Folder) where
    entries_honest : (before : List MadeFile) (stages : List Stage) (visits : List Visit)
        (halt : Option Halt) (base : Folder)
        → AreVisits (solve_over S keep) values hand before stages visits halt → HaveEntries keep visits
        → IsKeptHonest S base → IsKeptHonest S (folder_after (new_entries keep visits) base)
    entries_honest before stages [] halt base visited back honest = honest
    entries_honest before [] (visit ∷ visits) halt base visited back honest = absurd visited
    entries_honest before (at ∷ stages) (visit ∷ visits) halt base visited back honest =
        subst (IsKeptHonest S) (sym (folder_after_both (new_entry keep visit) (new_entries keep visits) base))
        (entries_honest (before ++ visit.made.files) stages visits halt (folder_after (new_entry keep visit) base)
        visited.1 back.1 (by (kept_in keep visit.bundle) refl))
      where
        by : (kept : Option Made) → kept_in keep visit.bundle ≡ kept
            → IsKeptHonest S (folder_after (cond (is_some kept) [] (entry_put visit.bundle visit.made ∷ [])) base)
        by (Some made) is = honest
        by None is =
            put_honest base visit (given_fits (input_text hand before) values at visit.bundle are visited.0.given)
            (back.0 is) (not_kept S laws keep visit is visited.0.solved) honest

  -- What a run keeps that started from an honest keep is honest.
  pub honest_after : (folder : Folder) → HaveEntries folder (trace_over S folder (hand_of folder)).visits
      → IsKeptHonest S folder → IsKeptHonest S (after S folder)
  unfolding after entries_over made_over
  honest_after folder back honest =
      traced_over S laws folder (hand_of folder)
      (λ trace. HaveEntries folder trace.visits
      → IsKeptHonest S (folder_after (new_entries folder trace.visits) (made_base S laws folder)))
      (λ reason is _. start)
      (λ values is back. entries_honest folder values (effective_settings (look_in (hand_of folder)) values is)
      (hand_of folder) [] (stages_run S laws values) _ _ (made_base S laws folder)
      (by_visits S laws (solve_over S folder) (solve_makes S laws folder) values (hand_of folder)) back start)
      back
    where
      start : IsKeptHonest S (made_base S laws folder)
      start = λ at bytes there. honest at bytes (sym (base_keeps S laws folder at) ∙ there)

-- ---- a further run makes the same

-- what a folder has for the stages that were made, and the one behind them: what was kept of them,
-- or their new entry
abbrev KeepsOn : Folder → Folder → List Stage → List Visit → Type 0
KeepsOn left keep [] visits = ⊤
KeepsOn left keep (at ∷ stages) [] = files.get left (keep_name at) ≡ files.get keep (keep_name at)
KeepsOn left keep (at ∷ stages) (visit ∷ visits) =
    (files.get left (keep_name at)
    ≡ cond (is_some (kept_in keep visit.bundle)) (files.get keep (keep_name at)) (Some (bytes_for visit)))
    × KeepsOn left keep stages visits

-- each stage that was made is kept
abbrev pub AreKept : Folder → List Visit → Type 0
AreKept left [] = ⊤
AreKept left (visit ∷ visits) = (kept_in left visit.bundle ≡ Some visit.made) × AreKept left visits

pub kept_none : (left : Folder) (visits : List Visit) → AreKept left visits → new_entries left visits ≡ []
kept_none left [] h = refl
kept_none left (visit ∷ visits) h = grind (arith, is_some, kept_none left visits h.1)

ok_same : (made other : Made) (told : Result Made Refusal) → told ≡ Ok made → told ≡ Ok other
    → made ≡ other
ok_same made other told first second = cc

module _ (S : StageParts) (laws : AreStages S) where
  module _ (keep : Folder) (values : List ℤ) (hand : Folder) where
    keeps_on : (before : List MadeFile) (stages : List Stage) (visits : List Visit)
        (halt : Option Halt) (base : Folder)
        → AreVisits (solve_over S keep) values hand before stages visits halt
        → differing (map keep_name stages) ≡ true → Alike base keep (map keep_name stages)
        → KeepsOn (folder_after (new_entries keep visits) base) keep stages visits
    keeps_on before [] visits halt base visited h same = tt
    keeps_on before (at ∷ stages) [] halt base visited h same = same.0
    keeps_on before (at ∷ stages) (visit ∷ visits) halt base visited h same =
        let parts = and_parts _ _ h in
        let own : visit.bundle.stage ≡ at = bundle_stage values at _ visit.bundle visited.0.given in
        let later = entries_within S laws keep values hand (λ other. not (bytes_eq (keep_name at) other))
        (before ++ visit.made.files) stages visits halt visited.1 parts.0 in
        let next = folder_after (new_entry keep visit) base in
        let whole = folder_after_both (new_entry keep visit) (new_entries keep visits) base in (
          ap (λ left. files.get left (keep_name at)) whole
              ∙ get_behind (new_entries keep visits) next (keep_name at)
              (not_among (names_in (new_entries keep visits)) (keep_name at) later)
              ∙ here (is_some (kept_in keep visit.bundle)) own,
          subst (λ left. KeepsOn left keep stages visits) (sym whole)
              (keeps_on (before ++ visit.made.files) stages visits halt next visited.1 parts.1
              (still (is_some (kept_in keep visit.bundle)) own parts.0)),
        )
      where
        here : (kept : Bool) → visit.bundle.stage ≡ at
            → files.get (folder_after (cond kept [] (entry_put visit.bundle visit.made ∷ [])) base) (keep_name at)
            ≡ cond kept (files.get keep (keep_name at)) (Some (bytes_for visit))
        here true own = same.0
        here false own =
            get_written (entry_put visit.bundle visit.made) base (keep_name at)
            ∙ ap (λ b. cond b (Some (bytes_for visit)) (files.get base (keep_name at)))
            ((bytes_eq-Decides (keep_name at) (keep_name visit.bundle.stage)).1 (ap keep_name (sym own)))

        still : (kept : Bool) → visit.bundle.stage ≡ at
            → differs_from (map keep_name stages) (keep_name at) ≡ true
            → Alike (folder_after (cond kept [] (entry_put visit.bundle visit.made ∷ [])) base) keep
            (map keep_name stages)
        still true own out = same.1
        still false own out =
            alike_after (entry_put visit.bundle visit.made) base keep (map keep_name stages)
            (ap (λ s. differs_from (map keep_name stages) (keep_name s)) own ∙ out) same.1

    module _ (left : Folder) where
      -- what is kept of a stage that was made is what was made
      kept_on : (at : Stage) (before : List MadeFile) (visit : Visit)
          → IsVisit (solve_over S keep) values hand before at visit
          → (kept_in keep visit.bundle ≡ None → HasEntry visit)
          → files.get left (keep_name at)
          ≡ cond (is_some (kept_in keep visit.bundle)) (files.get keep (keep_name at)) (Some (bytes_for visit))
          → kept_in left visit.bundle ≡ Some visit.made
      unfolding solve_over
      kept_on at before visit is back there =
          let own : visit.bundle.stage ≡ at = bundle_stage values at _ visit.bundle is.given in
          by (kept_in keep visit.bundle) refl is.solved
          (ap (λ s. files.get left (keep_name s)) own ∙ there
          ∙ ap (λ s. cond (is_some (kept_in keep visit.bundle)) (files.get keep (keep_name s))
          (Some (bytes_for visit))) (sym own))
        where
          by : (kept : Option Made) → kept_in keep visit.bundle ≡ kept
              → kept_or (kept_in keep visit.bundle) (S.run visit.bundle) ≡ Ok visit.made
              → files.get left (keep_name visit.bundle.stage)
              ≡ cond (is_some (kept_in keep visit.bundle)) (files.get keep (keep_name visit.bundle.stage))
              (Some (bytes_for visit))
              → kept_in left visit.bundle ≡ Some visit.made
          by (Some made) kept gives there = grind (arith, ok_same, is_some)
          by None kept gives there =
              ap (kept_for visit.bundle)
              (there ∙ ap (λ kept. cond (is_some kept) (files.get keep (keep_name visit.bundle.stage))
              (Some (bytes_for visit))) kept)
              ∙ own_kept visit.bundle visit.made (bytes_for visit) (read_back visit (back kept))

      kept_gives : (visit : Visit) → kept_in left visit.bundle ≡ Some visit.made
          → solve_over S left visit.bundle ≡ Ok visit.made
      unfolding solve_over
      kept_gives visit kept = ap (λ kept. kept_or kept (S.run visit.bundle)) kept

      -- and what was refused is refused
      still_refused : (at : Stage) (before : List MadeFile) (halt : Halt)
          → files.get left (keep_name at) ≡ files.get keep (keep_name at)
          → IsHalt (solve_over S keep) values hand before at halt
          → IsHalt (solve_over S left) values hand before at halt
      unfolding solve_over
      still_refused at before halt there h =
          ⊎_elim (λ none. inl none)
          (λ refused.
          let own : refused.bundle.stage ≡ at = bundle_stage values at _ refused.bundle refused.given in
          grind arith)
          h

      -- so the same stages are made
      still_visits : (before : List MadeFile) (stages : List Stage) (visits : List Visit)
          (halt : Option Halt) → AreVisits (solve_over S keep) values hand before stages visits halt
          → HaveEntries keep visits → KeepsOn left keep stages visits
          → AreVisits (solve_over S left) values hand before stages visits halt × AreKept left visits
      still_visits before [] [] None visited back on = (tt, tt)
      still_visits before [] [] (Some halt) visited back on = absurd visited
      still_visits before [] (visit ∷ visits) halt visited back on = absurd visited
      still_visits before (at ∷ stages) [] None visited back on = absurd visited
      still_visits before (at ∷ stages) [] (Some halt) visited back on =
          (still_refused at before halt on visited, tt)
      still_visits before (at ∷ stages) (visit ∷ visits) halt visited back on =
          grind (
            arith,
            kept_on,
            kept_gives,
            still_visits (before ++ visit.made.files) stages visits halt visited.1 back.1 on.1,
          )

    -- visits are those of the chain
    module _ (other : Folder) where
      visits_are : (before : List MadeFile) (stages : List Stage) (visits : List Visit)
          (halt : Option Halt) → AreVisits (solve_over S other) values hand before stages visits halt
          → (chain_from (solve_over S other) values hand before stages).visits ≡ visits
      unfolding visit_of
      visits_are before [] [] None visited = refl
      visits_are before [] [] (Some halt) visited = absurd visited
      visits_are before [] (visit ∷ visits) halt visited = absurd visited
      visits_are before (at ∷ stages) [] None visited = absurd visited
      visits_are before (at ∷ stages) [] (Some halt) visited = grind arith
      visits_are before (at ∷ stages) (visit ∷ visits) halt visited =
          grind (arith, visits_are (before ++ visit.made.files) stages visits halt visited.1)

  -- The chain over what a run left makes what the run made, and all of it is kept.
  record IsStill (left : Folder) (visits : List Visit) : Type 0 where
    same : (trace_over S left (hand_of left)).visits ≡ visits
    kept : AreKept left visits

  none_made : (folder hand : Folder) (reason : ConfigFault) → effective (look_in hand) ≡ Err reason
      → (trace_over S folder hand).visits ≡ []
  unfolding trace_over
  none_made folder hand reason is =
      ap (λ settings. (chain_under S (solve_over S folder) settings hand).visits) is

  made_by : (folder hand : Folder) (values : List ℤ) → effective (look_in hand) ≡ Ok values
      → (trace_over S folder hand).visits
      ≡ (chain_from (solve_over S folder) values hand [] (stages_run S laws values)).visits
  unfolding trace_over
  made_by folder hand values is =
      ap (λ settings. (chain_under S (solve_over S folder) settings hand).visits) is

  still_under : (folder : Folder) → HaveEntries folder (trace_over S folder (hand_of folder)).visits
      → IsStill (after S folder) (trace_over S folder (hand_of folder)).visits
  unfolding after entries_over made_over
  still_under folder back =
      let hand = hand_of folder in
      let there = ap (λ hand. (trace_over S (after S folder) hand).visits) (hand_after S laws folder) in
      traced_over S laws folder hand
      (λ trace. (trace_over S folder hand).visits ≡ trace.visits → HaveEntries folder trace.visits
      → IsStill (after S folder) trace.visits)
      (λ reason is same back. record { same = there ∙ none_made (after S folder) hand reason is; kept = tt })
      (λ values is same back.
      let stages = stages_run S laws values in
      let own = by_visits S laws (solve_over S folder) (solve_makes S laws folder) values hand in
      let on = subst (λ visits. KeepsOn (folder_after (new_entries folder visits) (made_base S laws folder)) folder
      stages (chain_under S (solve_over S folder) (Ok values) hand).visits) (sym same)
      (keeps_on folder values hand [] stages _ _ (made_base S laws folder) own (run_apart S laws values)
      (alike_base S laws folder stages)) in
      let still = still_visits folder values hand (after S folder) [] stages _ _ own back on in
      record {
        same = there ∙ made_by (after S folder) hand values is
            ∙ visits_are folder values hand (after S folder) [] stages _ _ still.0;
        kept = still.1;
      })
      refl back

  -- the made files are as they were made
  met_left : (folder : Folder)
      → AreMet (after S folder) (writes_for S (files_of (trace_over S folder (hand_of folder)).visits))
  unfolding after entries_over made_over
  met_left folder =
      let made = files_of (run_visits S laws folder) in
      let apart = are_apart S laws folder (hand_of folder) in
      met_behind (writes_for S made) (new_entries folder (run_visits S laws folder)) (made_base S laws folder)
      (files_apart S laws folder (run_visits S laws folder) apart)
      (subst (λ left. AreMet left (writes_for S made)) (writes_leave S laws made folder)
      (met_after (writes_for S made) folder (files_differ S laws made apart.differ)))

  -- A further run over what a run left writes nothing.
  pub none_again : (folder : Folder) → HaveEntries folder (trace_over S folder (hand_of folder)).visits
      → writes_of S (after S folder) ≡ []
  unfolding writes_of made_over entries_over
  none_again folder back = grind (arith, still_under, kept_none, none_unmet, met_left)
