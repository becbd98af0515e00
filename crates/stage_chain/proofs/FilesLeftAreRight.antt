-- What a run leaves in its folder is right there.
use Rattle.plan_num.proofs.Common.{arith, ◌≡◌, ℕ, ℤ, Bool, true, false, cond, leb, List, [], ◌∷◌}
use Rattle.plan_num.proofs.Common.{Option, Some, IfOk, Result, Ok, Err, refl, ap, subst, sym, ◌∙◌}
use Rattle.plan_num.proofs.Common.{map, list_all, ok_or, bytes_eq, and_parts, list_all-map}
use Rattle.plan_num.proofs.Common.{bytes_eq-Decides, and_from}
use Rattle.stage_chain.proofs.Traces.{run_staged, staged_within}
use Rattle.stage_chain.specs.StageParts.{staged}
use Rattle.std.specs.FinMap as files
use Rattle.plan_files.specs.declared.write.Write.TheVariants.{Put}
use Rattle.plan_files.proofs.Common.{Folder, get_part, part_after, get_written}
use Rattle.tables.specs.declared.file_id.FileId.{FileId}
use Rattle.tables.proofs.Common.{file_name}
use Rattle.tables.specs.declared.file_id.FileId.TheVariants as file
use Rattle.giv_files.specs.declared.made.MadeFile.{MadeFile}
use Rattle.giv_files.specs.declared.stage.Stage.{Stage}
use Rattle.giv_files.proofs.Common.{stage_makes}
use Rattle.giv_files.specs.declared.stage.Stage.TheVariants as stage
use Rattle.config_keys.proofs.Common.{last_stage_of, look_in, effective, effective_settings}
use Rattle.stage_chain.specs.declared.cause.Cause.{Cause}
use Rattle.stage_chain.specs.declared.cause.Cause.TheVariants as cause
use Rattle.stage_chain.specs.Built.{files_of, trace_of, made}
use Rattle.stage_chain.specs.Chain.{Visit, Trace, hand_text, made_text, input_text, stage_place}
use Rattle.stage_chain.specs.Hand.{is_among, is_hand, hand_of, names_made_by}
use Rattle.stage_chain.specs.Right.{made_in, text_in, files_by, StandsRight, AllStandRight}
use Rattle.stage_chain.specs.Right.{StandRightIn, MadeFilesAreRight, IsLeftRight}
use Rattle.stage_chain.specs.Kept.{IsKeptHonest, made_over, new_entries, trace_over}
use Rattle.stage_chain.specs.Runs.{name_of, with_files, without_made, after, entries_over}
use Rattle.stage_chain.specs.Runs.{run_over, writes_of}
use Rattle.stage_chain.proofs.Differing.{all_filter, same_way, not_among}
use Rattle.stage_chain.proofs.HandAlone.{look_same, settings_same}
use Rattle.stage_chain.proofs.HandKept.{writes_outside}
use Rattle.stage_chain.proofs.Keeping.{from_scratch}
use Rattle.stage_chain.proofs.Left.{after_is}
use Rattle.stage_chain.proofs.MadeRight.{visits_right}
use Rattle.stage_chain.proofs.MadeTexts.{names_of, or_missing, or_text, text_nowhere, Agree, files_same}
use Rattle.stage_chain.proofs.FoundAmongAllMade.{ArePlaced, bundle_more, made_looks}
use Rattle.stage_chain.proofs.Traces.{traced, chain, stages_run, are_placed}
use Rattle.stage_chain.proofs.Wishes.{get_behind, names_in}
use Rattle.stage_chain.proofs.WrittenNames.{are_apart, file_no_keep, none_by}
use Rattle.stage_chain.specs.StageLists.{differing, differs_from, is_kept_name}
use Rattle.stage_chain.specs.StageParts.{StageParts}
use Rattle.stage_chain.specs.Laws.{AreStages}
use Rattle.stage_chain.specs.Checks.{standing}
use Rattle.stage_chain.proofs.FoundAmongAllMade.{names_more}
use Rattle.stage_chain.proofs.Differing.{all_parts}
use Rattle.stage_chain.proofs.WrittenNames.{each_among}

-- ---- made files in a folder that has them

-- a text, or else another one
module _ (S : StageParts) (laws : AreStages S) where
  put_found : (file : FileId) (other : MadeFile) (made : List MadeFile) (base : Option (List ℕ))
      (here : Bool) → bytes_eq (file_name file) (name_of other) ≡ here
      → differs_from (names_of made) (name_of other) ≡ true
      → or_text (made_text made file) (ok_or (cond here (Some other.text) base) (cause.Missing file))
      ≡ or_text (cond here (Ok other.text) (made_text made file)) (ok_or base (cause.Missing file))
  put_found file other made base true is out =
      grind (arith, bytes_eq-Decides, text_nowhere, not_among, names_of)
  put_found file other made base false is out = refl

  -- a file that was made is found with the text that was made, and every other as before
  with_found : (made : List MadeFile) (base : Folder) (file : FileId)
      → differing (names_of made) ≡ true
      → made_in (with_files made base) file ≡ or_text (made_text made file) (made_in base file)
  with_found [] base file h = refl
  with_found (other ∷ made) base file h =
      let parts = and_parts _ _ h in
      with_found made (files.insert base (name_of other) other.text) file parts.1
      ∙ ap (λ found. or_text (made_text made file) (ok_or found (cause.Missing file)))
      (get_written (Put (name_of other) other.text) base (file_name file))
      ∙ put_found file other made (files.get base (file_name file)) (bytes_eq (file_name file) (name_of other)) refl
      parts.0
      ∙ ap (λ here. or_text (cond here (Ok other.text) (made_text made file)) (made_in base file))
      (same_way (file_name file) (name_of other))

found_first : (text other : Result (List ℕ) Cause) (bytes : List ℕ) → text ≡ Ok bytes
    → or_text text other ≡ Ok bytes
found_first (Ok text) other bytes e = e
found_first (Err why) other bytes e = absurd (cc)

-- ---- the folder that a run leaves

-- the files that a stage makes are found as made ones
pub looks_there : (folder : Folder) (stage : Stage)
    → files_by (text_in folder) (stage_makes stage) ≡ standing folder stage
looks_there folder stage.Load = refl
looks_there folder _ = refl

module _ (S : StageParts) (laws : AreStages S) where
  module _ (folder : Folder) where
    abbrev all : List MadeFile
    all = (run_over S folder).files

    all_differ : differing (names_of all) ≡ true
    unfolding made_over
    all_differ = (are_apart S laws folder (hand_of folder)).differ

    -- no entry has the name of a file of the dataset
    not_kept : (file : FileId) → is_among (file_name file) (names_in (entries_over S folder)) ≡ false
    unfolding entries_over
    not_kept file =
        none_by is_kept_name (file_name file)
        (names_in (new_entries folder (trace_over S folder (hand_of folder)).visits)) (file_no_keep file)
        (are_apart S laws folder (hand_of folder)).kept

    found_after : (file : FileId)
        → made_in (after S folder) file ≡ or_text (made_text all file) (made_in (without_made S folder) file)
    unfolding after
    found_after file =
        ap (λ found. ok_or found (cause.Missing file))
        (get_behind (entries_over S folder) (with_files all (without_made S folder)) (file_name file) (not_kept file))
        ∙ with_found S laws all (without_made S folder) file all_differ

    -- a text that was made stands there
    get_after : (file : FileId) (text : List ℕ) → made_text all file ≡ Ok text
        → made_in (after S folder) file ≡ Ok text
    get_after file text e = grind (arith, found_after, found_first)

    -- and of the files that the built stages make no other one
    same_after : (file : FileId) → is_among (file_name file) (names_made_by S.places) ≡ true
        → made_in (after S folder) file ≡ made_text all file
    same_after file is = grind (arith, get_part, found_after, or_missing)

    agree_after : (some : List FileId)
        → list_all (λ file. is_among (file_name file) (names_made_by S.places)) some ≡ true
        → Agree (made_in (after S folder)) (made_text all) some
    agree_after [] h = tt
    agree_after (file ∷ some) h =
        let parts = and_parts _ _ h in (same_after file parts.0, agree_after some parts.1)

    pub hand_after : hand_of (after S folder) ≡ hand_of folder
    unfolding hand_of
    hand_after =
        ap (λ left. files.retain_keys left is_hand) (sym (after_is S laws folder))
        ∙ part_after is_hand (writes_of S folder) folder (writes_outside S laws folder)

    -- a hand file is found as before
    look_after : (name : List ℕ) → is_hand name ≡ true
        → look_in (after S folder) name ≡ look_in (hand_of folder) name
    look_after name is =
        sym (look_same (after S folder) name is) ∙ ap (λ hand. look_in hand name) hand_after

    -- what a stage was given is found there
    input_after : (file : FileId) (text : List ℕ) → input_text (hand_of folder) all file ≡ Ok text
        → text_in (after S folder) file ≡ Ok text
    unfolding is_hand
    input_after file.Stop text e =
        ap (hand_text false file.Stop) (look_after (file_name file.Stop) refl) ∙ e
    input_after file.Edge text e =
        ap (hand_text false file.Edge) (look_after (file_name file.Edge) refl) ∙ e
    input_after file.LoadGiven text e =
        ap (hand_text false file.LoadGiven) (look_after (file_name file.LoadGiven) refl) ∙ e
    input_after file.Od text e =
        ap (hand_text false file.Od) (look_after (file_name file.Od) refl) ∙ e
    input_after file.Pool text e =
        ap (hand_text false file.Pool) (look_after (file_name file.Pool) refl) ∙ e
    input_after file.PinnedConcept text e =
        ap (hand_text false file.PinnedConcept) (look_after (file_name file.PinnedConcept) refl) ∙ e
    input_after file.PinnedTimes text e =
        ap (hand_text false file.PinnedTimes) (look_after (file_name file.PinnedTimes) refl) ∙ e
    input_after file.PinnedSchedule text e =
        ap (hand_text false file.PinnedSchedule) (look_after (file_name file.PinnedSchedule) refl) ∙ e
    input_after file.PinnedTree text e =
        ap (hand_text true file.PinnedTree) (look_after (file_name file.PinnedTree) refl) ∙ e
    input_after file.PinnedPotential text e =
        ap (hand_text true file.PinnedPotential) (look_after (file_name file.PinnedPotential) refl) ∙ e
    input_after file.EventDelays text e =
        ap (hand_text true file.EventDelays) (look_after (file_name file.EventDelays) refl) ∙ e
    input_after file.ActivityDelays text e =
        ap (hand_text true file.ActivityDelays) (look_after (file_name file.ActivityDelays) refl) ∙ e
    input_after other text e = get_after other text e

    -- the built stages make no other files than the built stages make
    abbrev is_own : Stage → Bool
    is_own stage =
        list_all (λ file. is_among (file_name file) (names_made_by S.places)) (stage_makes stage)

    -- what is right over what was made is right in the folder that is left
    one_after : (values : List ℤ) (visit : Visit) → is_own visit.bundle.stage ≡ true
        → StandsRight S (input_text (hand_of folder) all) values visit.bundle visit.made.files
        → StandsRight S (text_in (after S folder)) values visit.bundle visit.made.files
    one_after values visit own h =
        grind (arith, bundle_more, input_after, looks_there, files_same, agree_after, made_looks)

    all_after : (values : List ℤ) (stages : List Stage) (visits : List Visit)
        → list_all is_own stages ≡ true
        → ArePlaced S.run laws.makes values (hand_of folder) all stages visits
        → AllStandRight S (input_text (hand_of folder) all) values visits
        → AllStandRight S (text_in (after S folder)) values visits
    all_after values stages [] own placed h = tt
    all_after values [] (visit ∷ visits) own placed h = absurd placed
    all_after values (stage ∷ stages) (visit ∷ visits) own placed h =
        let parts = and_parts _ _ own in (
          one_after values visit (ap is_own placed.0.own ∙ parts.0) h.0,
          all_after values stages visits parts.1
              placed.1 h.1,
        )

-- ---- the settings there

own_among : (q : List ℕ → Bool) (stages : List Stage) → list_all q (names_made_by stages) ≡ true
    → list_all (λ stage. list_all (λ file. q (file_name file)) (stage_makes stage)) stages ≡ true
own_among q [] h = refl
own_among q (stage ∷ stages) h =
    let parts = all_parts q (map file_name (stage_makes stage)) (names_made_by stages)
    (ap (list_all q) (sym (names_more stage stages)) ∙ h) in
    and_from _ _ (sym (list_all-map q file_name (stage_makes stage)) ∙ parts.0) (own_among q stages parts.1)

module _ (S : StageParts) (laws : AreStages S) where
  built_own : (folder : Folder) (values : List ℤ) → list_all (is_own S laws folder) (staged S values) ≡ true
  built_own folder values =
      own_among (λ name. is_among name (names_made_by S.places)) (staged S values)
      (staged_within S laws values (λ name. is_among name (names_made_by S.places))
      (each_among [] (names_made_by S.places)))

  pub settings_after : (folder : Folder)
      → effective (look_in (after S folder)) ≡ effective (look_in (hand_of folder))
  settings_after folder =
      sym (settings_same (after S folder)) ∙ ap (λ hand. effective (look_in hand)) (hand_after S laws folder)

  pub left_by : (folder : Folder) (values : List ℤ) → effective (look_in (hand_of folder)) ≡ Ok values
      → (run_over S folder).files ≡ files_of (chain S laws values (hand_of folder)).visits
      → AllStandRight S (text_in (after S folder)) values (chain S laws values (hand_of folder)).visits
  left_by folder values is same =
      let hand = hand_of folder in
      let visits = (chain S laws values hand).visits in
      let placed = subst (λ all. ArePlaced S.run laws.makes values hand all (stages_run S laws values) visits)
      (sym same) (are_placed S laws values hand) in
      all_after S laws folder values (stages_run S laws values) visits
      (all_filter (is_own S laws folder) (λ stage. leb (stage_place stage) (stage_place (last_stage_of values)))
      (staged S values) (built_own folder values)) placed
      (visits_right S laws values hand (effective_settings (look_in hand) values is) (run_over S folder).files
      (stages_run S laws values) visits (run_staged S laws values) placed)

  under : (folder : Folder) (visits : List Visit) (values : List ℤ)
      → effective (look_in (after S folder)) ≡ Ok values
      → AllStandRight S (text_in (after S folder)) values visits → StandRightIn S (after S folder) visits
  under folder visits values is h =
      subst (λ settings. IfOk settings (λ values. AllStandRight S (text_in (after S folder)) values visits)) (sym is) h

  pub files_are : (hand : Folder) (trace : Trace) → trace_of S hand ≡ trace
      → (made S hand).files ≡ files_of trace.visits
  unfolding made
  files_are hand trace same = ap (λ (trace : Trace). files_of trace.visits) same

  -- over an honest keep they are those that were made
  pub run_files : (folder : Folder) → IsKeptHonest S folder → (trace : Trace)
      → trace_of S (hand_of folder) ≡ trace → (run_over S folder).files ≡ files_of trace.visits
  run_files folder honest trace same =
      (from_scratch S laws folder honest).files ∙ files_are (hand_of folder) trace same

  pub left_right : (folder : Folder) → MadeFilesAreRight S folder
  unfolding MadeFilesAreRight
  left_right folder = λ honest.
      traced S laws (hand_of folder)
      (λ trace. trace_of S (hand_of folder) ≡ trace → StandRightIn S (after S folder) trace.visits)
      (λ reason is _.
      subst (λ settings. IfOk settings (λ values. AllStandRight S (text_in (after S folder)) values []))
      (sym (settings_after folder ∙ is)) tt)
      (λ values is same. under folder (chain S laws values (hand_of folder)).visits values
      (settings_after folder ∙ is)
      (left_by folder values is (run_files folder honest (chain S laws values (hand_of folder)) same)))
      refl

  -- the folder that a finished run left is that one
  pub left_in : (folder : Folder) (left : Option Folder) → IsKeptHonest S folder
      → left ≡ Some (after S folder) → IsLeftRight S folder left
  unfolding MadeFilesAreRight
  left_in folder left honest is = rw is (left_right folder honest)
