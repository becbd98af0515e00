-- Where each stage of a folder is kept, or off without files, the next run has nothing to do.
use Rattle.plan_num.proofs.Common.{◌≡◌, ℕ, ℤ, Bool, true, false, cond, not, is_some, List, [], ◌∷◌}
use Rattle.plan_num.proofs.Common.{◌++◌, map, Option, Some, None, Result, Ok, Err, refl, ap, sym}
use Rattle.plan_num.proofs.Common.{subst, ◌∙◌, append_assoc, append-nil, arith, fold, ◌+◌, ◌||◌}
use Rattle.plan_num.proofs.Common.{list_all, sum_by, and_parts, or_parts, map-append, filter-append}
use Rattle.std.specs.FinMap as files
use Rattle.plan_files.specs.declared.write.Write.{Write}
use Rattle.plan_files.specs.declared.write.Write.TheVariants.{Removal}
use Rattle.plan_files.proofs.Common.{Folder}
use Rattle.tables.specs.declared.file_id.FileId.{FileId}
use Rattle.tables.proofs.Common.{file_name}
use Rattle.giv_files.specs.declared.made.Made.{Made}
use Rattle.giv_files.specs.declared.made.MadeFile.{MadeFile}
use Rattle.giv_files.specs.declared.stage.Stage.{Stage}
use Rattle.giv_files.proofs.Common.{MakesAs, ids_of, BundleParts, stage_inputs, stage_makes}
use Rattle.config_keys.proofs.Common.{look_in, effective}
use Rattle.stage_chain.specs.declared.cause.Cause.{Cause}
use Rattle.stage_chain.specs.declared.holding.Holding.{Holding}
use Rattle.stage_chain.specs.declared.holding.Holding.TheVariants as holding
use Rattle.stage_chain.specs.Built.{cause_of, chain_under, files_of}
use Rattle.stage_chain.specs.Chain.{Trace, Visit, bundle_told, chain_from, go_on, handed, handed_end, is_file}
use Rattle.stage_chain.specs.Chain.{is_to_run, made_text, solved, texts_of, to_run, tried, visit_of}
use Rattle.stage_chain.specs.Hand.{hand_of, is_among, names_made_by}
use Rattle.stage_chain.specs.Kept.{kept_in, made_over, new_entries, solve_over, trace_over, work_over}
use Rattle.stage_chain.specs.NextRuns.{AreSettled, HasNoFile, IsIdle, IsSettled, TellsNext}
use Rattle.stage_chain.specs.Reports.{end_of}
use Rattle.stage_chain.specs.Runs.{entries_over, names_besides, put_of, unmet, writes_for, writes_of}
use Rattle.stage_chain.specs.StageParts.{StageParts}
use Rattle.stage_chain.specs.States.{KnownFiles, held, holding_at, holding_in, kept_of, known_with}
use Rattle.stage_chain.specs.States.{lacks_input, nothing_known, stands_as, state_by, text_among}
use Rattle.stage_chain.specs.Laws.{AreStages}
use Rattle.stage_chain.specs.Right.{files_by, found_file}
use Rattle.stage_chain.proofs.HandAlone.{over_alone}
use Rattle.stage_chain.proofs.Keeping.{solve_makes}
use Rattle.stage_chain.proofs.KeptAfter.{AreKept, kept_none}
use Rattle.stage_chain.proofs.MadeTexts.{names_of, text_nowhere}
use Rattle.stage_chain.proofs.NextRuns.{all_tell}
use Rattle.stage_chain.proofs.FoundAmongAllMade.{names_more, own_found}
use Rattle.stage_chain.proofs.Visits.{bundle_stage}
use Rattle.stage_chain.proofs.Wishes.{AreMet, none_unmet, same_is}

met_both : (folder : Folder) (some others : List Write) → AreMet folder some → AreMet folder others
    → AreMet folder (some ++ others)
met_both folder [] others h k = k
met_both folder (write ∷ some) others h k = (h.0, met_both folder some others h.1 k)

-- ---- files that stand as they were made

among_by : (made : List MadeFile) (file : FileId) (told : Result (List ℕ) Cause) → made_text made file ≡ told
    → text_among made file ≡ elim told as (λ _. Option (List ℕ)) [
      | Ok text ↦ Some text
      | Err why ↦ None
    ]
among_by made file told is = subst (λ told. text_among made file ≡ elim told as (λ _. Option (List ℕ)) [
  | Ok text ↦ Some text
  | Err why ↦ None
]) is (same made)
  where
    same : (made : List MadeFile) → text_among made file ≡ elim (made_text made file) as (λ _. Option (List ℕ)) [
      | Ok text ↦ Some text
      | Err why ↦ None
    ]
    same [] = refl
    same (other ∷ made) = by (is_file other.file file) (same made)
      where
        by : (here : Bool) → text_among made file ≡ elim (made_text made file) as (λ _. Option (List ℕ)) [
          | Ok text ↦ Some text
          | Err why ↦ None
        ]
            → cond here (Some other.text) (text_among made file)
            ≡ elim (cond here (Ok other.text) (made_text made file)) as (λ _. Option (List ℕ)) [
              | Ok text ↦ Some text
              | Err why ↦ None
            ]
        by true rest = refl
        by false rest = rest

module _ (folder : Folder) (made : List MadeFile) where
  there : (file : FileId) (text : List ℕ) → stands_as folder made file ≡ true → made_text made file ≡ Ok text
      → files.get folder (file_name file) ≡ Some text
  there file text stands is =
      same_is (files.get folder (file_name file)) (text_among made file) stands ∙ among_by made file (Ok text) is

  -- puts of what was made change nothing
  puts_met : (ids : List FileId) → list_all (stands_as folder made) ids ≡ true
      → AreMet folder (map put_of (files_by (made_text made) ids))
  puts_met [] stand = tt
  puts_met (file ∷ ids) stand =
      let parts = and_parts _ _ stand in
      by (made_text made file) refl parts.0 (puts_met ids parts.1)
    where
      by : (told : Result (List ℕ) Cause) → made_text made file ≡ told → stands_as folder made file ≡ true
          → AreMet folder (map put_of (files_by (made_text made) ids))
          → AreMet folder (map put_of (found_file file told (files_by (made_text made) ids)))
      by (Ok text) is stands rest = (there file text stands is, rest)
      by (Err why) is stands rest = rest

  module _ (all : List MadeFile)
      (own : (name : List ℕ) → is_among name (names_of all) ≡ false → is_among name (names_of made) ≡ false) where
    -- and so do removals of what was not
    removals_met : (ids : List FileId) → list_all (stands_as folder made) ids ≡ true
        → AreMet folder (map Removal (names_besides all (map file_name ids)))
    removals_met [] stand = tt
    removals_met (file ∷ ids) stand =
        let parts = and_parts _ _ stand in
        by (is_among (file_name file) (names_of all)) refl parts.0 (removals_met ids parts.1)
      where
        by : (kept : Bool) → is_among (file_name file) (names_of all) ≡ kept → stands_as folder made file ≡ true
            → AreMet folder (map Removal (names_besides all (map file_name ids)))
            → AreMet folder
            (map Removal
            (cond (not kept) (file_name file ∷ names_besides all (map file_name ids))
            (names_besides all (map file_name ids))))
        by true is stands rest = rest
        by false is stands rest = grind (arith, same_is, among_by, text_nowhere)

-- ---- the chain over such a folder

none_lost : (values : List ℤ) (at : Stage) → lacks_input values [] at ≡ false
none_lost values at = grind arith

module _ (S : StageParts) (laws : AreStages S) (folder : Folder) (values : List ℤ) where
  abbrev kept_so : List MadeFile → KnownFiles
  kept_so before = record { kept = before; lost = [] }

  abbrev chain_on : List MadeFile → List Stage → Trace
  chain_on before places =
      chain_from (solve_over S folder) values folder before (to_run values (map (S.placed values) places))

  kept_solves : (bundle : BundleParts) (made : Made) → kept_in folder bundle ≡ Some made
      → solve_over S folder bundle ≡ Ok made
  unfolding solve_over
  kept_solves bundle made is = rw is refl

  -- all that is made is kept, to the end, and no write of it changes anything
  record IsIdleOn (before : List MadeFile) (places : List Stage) (trace : Trace) : Type 0 where
    halt : trace.halt ≡ None
    kept : AreKept folder trace.visits
    puts : AreMet folder (map put_of (files_of trace.visits))
    removals : (all : List MadeFile) → before ++ files_of trace.visits ≡ all
        → AreMet folder (map Removal (names_besides all (names_made_by places)))

  -- what is held of the stage in a place
  module _ (before : List MadeFile) (place : Stage) where
    abbrev at : Stage
    at = S.placed values place

    abbrev here : Holding
    here = holding_in S folder values (kept_so before) place

    abbrev told : Result BundleParts Cause
    told = bundle_told values at (texts_of values folder before (stage_inputs at))

    off_here : is_to_run values at ≡ false → here ≡ holding.Off
    unfolding holding_at
    off_here is = rw is refl

    held_here : is_to_run values at ≡ true → here ≡ held (kept_of folder told)
    unfolding holding_at
    held_here is = rw (is, none_lost values at) refl

    -- a stage that is to run and settled is held, and its files stand
    record IsHeld : Type 0 where
      bundle : BundleParts
      made : Made
      given : told ≡ Ok bundle
      kept : kept_in folder bundle ≡ Some made
      holds : here ≡ holding.Held made
      stand : list_all (stands_as folder made.files) (stage_makes place) ≡ true

    settled_held : is_to_run values at ≡ true → IsSettled folder place (state_by folder place here) → IsHeld
    settled_held runs settled = grind (arith, held_here)

  -- with one stage more that is held
  held_more : (before : List MadeFile) (place : Stage) (places : List Stage) (held : IsHeld before place)
      → IsIdleOn (before ++ held.made.files) places (chain_on (before ++ held.made.files) places)
      → IsIdleOn before (place ∷ places)
      (go_on (Ok (record { bundle = held.bundle; made = held.made }))
      (λ visit. chain_on (before ++ visit.made.files) places))
  held_more before place places held rest =
      let made = held.made.files in
      let at = S.placed values place in
      let own = bundle_stage values at _ held.bundle held.given in
      let makes = subst (λ own. MakesAs own (ids_of made)) own
      (solve_makes S laws folder held.bundle held.made (kept_solves held.bundle held.made held.kept)) in
      let stand : list_all (stands_as folder made) (stage_makes at) ≡ true =
      ap (list_all (stands_as folder made)) (laws.placed values place).makes ∙ held.stand in
      let puts = subst (λ files. AreMet folder (map put_of files)) (own_found at made makes)
      (puts_met folder made (stage_makes at) stand) in
      let behind = files_of (chain_on (before ++ made) places).visits in
      record {
        halt = rest.halt;
        kept = (held.kept, rest.kept);
        puts = subst (AreMet folder) (sym (map-append put_of made behind))
            (met_both folder (map put_of made) (map put_of behind) puts rest.puts);
        removals = λ all whole.
            let same : before ++ made ++ behind ≡ all = append_assoc before made behind ∙ whole in
            let own_names : (name : List ℕ) → is_among name (names_of all) ≡ false
            → is_among name (names_of made) ≡ false =
            λ name out. outside before made behind name (ap (λ files. is_among name (names_of files)) same ∙ out) in
            subst (λ names. AreMet folder (map Removal (names_besides all names))) (sym (names_more place places))
            (subst (λ names. AreMet folder (map Removal names))
            (sym (filter-append (λ name. not (is_among name (names_of all))) (map file_name (stage_makes place))
            (names_made_by places)))
            (subst (AreMet folder)
            (sym (map-append Removal (names_besides all (map file_name (stage_makes place)))
            (names_besides all (names_made_by places))))
            (met_both folder _ _ (removals_met folder made all own_names (stage_makes place) held.stand)
            (rest.removals all same))));
      }
    where
      outside : (before made behind : List MadeFile) (name : List ℕ)
          → is_among name (names_of (before ++ made ++ behind)) ≡ false → is_among name (names_of made) ≡ false
      outside [] [] behind name out = refl
      outside [] (file ∷ made) behind name out =
          let parts = or_parts _ _ out in
          ap (λ b. b || is_among name (names_of made)) parts.0 ∙ outside [] made behind name parts.1
      outside (file ∷ before) made behind name out = outside before made behind name (or_parts _ _ out).1

  -- with one more that is off
  off_more : (before : List MadeFile) (place : Stage) (places : List Stage) → HasNoFile folder place
      → IsIdleOn before places (chain_on before places) → IsIdleOn before (place ∷ places) (chain_on before places)
  off_more before place places none rest = grind arith

  idle_on : (before : List MadeFile) (places : List Stage) → AreSettled S folder values (kept_so before) places
      → IsIdleOn before places (chain_on before places)
  unfolding visit_of
  idle_on before [] settled = record { halt = refl; kept = tt; puts = tt; removals = λ all whole. tt }
  idle_on before (place ∷ places) settled =
      by (is_to_run values (S.placed values place)) refl (λ made settled. idle_on (before ++ made) places settled)
      (idle_on before places)
    where
      Later : Type 0
      Later = (made : List MadeFile) → AreSettled S folder values (kept_so (before ++ made)) places
          → IsIdleOn (before ++ made) places (chain_on (before ++ made) places)

      Same : Type 0
      Same = AreSettled S folder values (kept_so before) places → IsIdleOn before places (chain_on before places)

      by : (runs : Bool) → is_to_run values (S.placed values place) ≡ runs → Later → Same
          → IsIdleOn before (place ∷ places)
          (chain_from (solve_over S folder) values folder before
          (cond runs (S.placed values place ∷ to_run values (map (S.placed values) places))
          (to_run values (map (S.placed values) places))))
      by true runs later same =
          let held = settled_held before place runs settled.0 in
          let rest = later held.made.files (subst (λ h. AreSettled S folder values
          (known_with (kept_so before) place h) places) held.holds settled.1) in
          subst (λ visit. IsIdleOn before (place ∷ places)
          (go_on visit (λ visit. chain_on (before ++ visit.made.files) places)))
          (sym (ap (tried (solve_over S folder) values folder) held.given
          ∙ ap (solved (solve_over S folder) values folder held.bundle) (kept_solves held.bundle held.made held.kept)))
          (held_more before place places held rest)
      by false runs later same =
          let off = off_here before place runs in
          off_more before place places (subst (λ h. IsSettled folder place (state_by folder place h)) off settled.0)
          (same (subst (λ h. AreSettled S folder values (known_with (kept_so before) place h) places) off settled.1))

  -- what is kept takes no step
  kept_work : (count : ℕ) (visits : List Visit) → AreKept folder visits
      → fold (λ count bundle. count + work_over S folder bundle) count (map (λ visit. visit.bundle) visits) ≡ count
  unfolding work_over
  kept_work count [] kept = refl
  kept_work count (visit ∷ visits) kept =
      grind (arith, is_some, kept_work (count + work_over S folder visit.bundle) visits kept.1)

  pub idle_run : effective (look_in folder) ≡ Ok values → AreSettled S folder values nothing_known S.places
      → IsIdle S folder
  unfolding made_over trace_over writes_of entries_over writes_for
  idle_run is settled =
      let idle = idle_on [] S.places settled in
      let same : trace_over S folder (hand_of folder) ≡ chain_on [] S.places =
      over_alone S laws folder folder ∙ ap (λ settings. chain_under S (solve_over S folder) settings folder) is in
      let visits = (chain_on [] S.places).visits in
      record {
        end = ap (λ (trace : Trace). end_of (cause_of trace.halt)) same ∙ ap (λ halt. end_of (cause_of halt)) idle.halt;
        work = ap (λ trace. sum_by (work_over S folder) (handed trace)) same
            ∙ ap (λ halt. sum_by (work_over S folder) (map (λ visit. visit.bundle) visits ++ handed_end halt)) idle.halt
            ∙ ap (sum_by (work_over S folder)) (append-nil (map (λ visit. visit.bundle) visits))
            ∙ kept_work 0 visits idle.kept;
        writes =
            ap (λ (trace : Trace). unmet folder (writes_for S (files_of trace.visits)) ++ new_entries folder
            trace.visits) same
            ∙ ap (λ some. unmet folder (writes_for S (files_of visits)) ++ some) (kept_none folder visits idle.kept)
            ∙ ap (λ some. some ++ [])
            (none_unmet (writes_for S (files_of visits)) folder
            (met_both folder _ _ idle.puts (idle.removals (files_of visits) refl)));
      }

module _ (S : StageParts) (laws : AreStages S) where
  pub tells_next : (folder : Folder) → TellsNext S folder
  unfolding trace_over
  tells_next folder = grind (arith, over_alone, all_tell, idle_run)
