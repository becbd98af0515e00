-- What the writes of a run leave.
use Rattle.plan_num.proofs.Common.{arith, ◌≡◌, ℕ, Bool, true, false, cond, not, ◌||◌, List, [], ◌∷◌}
use Rattle.plan_num.proofs.Common.{◌++◌, map, Option, Some, None, refl, ap, sym, ◌∙◌, bytes_eq}
use Rattle.plan_num.proofs.Common.{false≢true, bytes_eq-Decides}
use Rattle.std.specs.FinMap as files
use Rattle.plan_files.specs.declared.write.Write.TheVariants.{Put, Removal}
use Rattle.plan_files.proofs.Common.{Folder, after_write, folder_after, get_part, same_folder}
use Rattle.plan_files.proofs.Common.{folder_after_both, get_written}
use Rattle.giv_files.specs.declared.made.MadeFile.{MadeFile}
use Rattle.stage_chain.specs.Hand.{hand_of, is_among, keep_names, names_made_by}
use Rattle.stage_chain.specs.Built.{files_of}
use Rattle.stage_chain.specs.Kept.{made_over, trace_over}
use Rattle.stage_chain.specs.Runs.{after, entries_over, name_of, with_files, without_keep}
use Rattle.stage_chain.specs.Runs.{without_made, put_of, names_besides, unmet, writes_for}
use Rattle.stage_chain.specs.Runs.{writes_of}
use Rattle.stage_chain.proofs.Wishes.{unmet_leaves}
use Rattle.stage_chain.proofs.WrittenNames.{are_apart, files_differ, names_removed}
use Rattle.stage_chain.specs.StageLists.{differing}
use Rattle.stage_chain.specs.StageParts.{StageParts}
use Rattle.stage_chain.specs.Laws.{AreStages}

-- puts leave a folder with the files
puts_leave : (made : List MadeFile) (folder : Folder)
    → folder_after (map put_of made) folder ≡ with_files made folder
puts_leave [] folder = refl
puts_leave (file ∷ made) folder = puts_leave made (files.insert folder (name_of file) file.text)

-- removals leave a folder without the files
get_removed : (names : List (List ℕ)) (folder : Folder) (name : List ℕ)
    → files.get (folder_after (map Removal names) folder) name ≡ cond (is_among name names) None (files.get folder name)
get_removed [] folder name = refl
get_removed (other ∷ names) folder name =
    get_removed names (after_write (Removal other) folder) name
    ∙ ap (λ found. cond (is_among name names) None found) (get_written (Removal other) folder name)
    ∙ by (bytes_eq name other) (is_among name names)
  where
    by : (same among : Bool)
        → cond among None (cond same None (files.get folder name)) ≡ cond (same || among) None (files.get folder name)
    by true true = refl
    by true false = refl
    by false among = refl

-- with files a folder has them under their names, and under others what it had: where two folders
-- differ under no other name, both have the same
pub same_with : (made : List MadeFile) (folder other : Folder) (name : List ℕ)
    → (is_among name (map name_of made) ≡ false → files.get folder name ≡ files.get other name)
    → files.get (with_files made folder) name ≡ files.get (with_files made other) name
same_with [] folder other name same = same refl
same_with (file ∷ made) folder other name same =
    same_with made (files.insert folder (name_of file) file.text) (files.insert other (name_of file) file.text) name
    (λ out.
    get_written (Put (name_of file) file.text) folder name ∙ by (bytes_eq name (name_of file)) refl out
    ∙ sym (get_written (Put (name_of file) file.text) other name))
  where
    by : (here : Bool) → bytes_eq name (name_of file) ≡ here
        → is_among name (map name_of made) ≡ false
        → cond here (Some file.text) (files.get folder name) ≡ cond here (Some file.text) (files.get other name)
    by true is out = refl
    by false is out = same (rw (is, out) refl)

-- a name that was not made is under no file that was put
pub other_with : (made : List MadeFile) (folder : Folder) (name : List ℕ)
    → is_among name (map name_of made) ≡ false
    → files.get (with_files made folder) name ≡ files.get folder name
other_with [] folder name out = refl
other_with (file ∷ made) folder name out =
    by (bytes_eq name (name_of file)) refl out
    (λ out. other_with made (files.insert folder (name_of file) file.text) name out)
  where
    by : (here : Bool) → bytes_eq name (name_of file) ≡ here
        → (here || is_among name (map name_of made)) ≡ false
        → (is_among name (map name_of made) ≡ false
        → files.get (with_files made (files.insert folder (name_of file) file.text)) name
        ≡ files.get (files.insert folder (name_of file) file.text) name)
        → files.get (with_files made (files.insert folder (name_of file) file.text)) name ≡ files.get folder name
    by true is out more = absurd (false≢true (sym out))
    by false is out more =
        more out ∙ get_written (Put (name_of file) file.text) folder name
        ∙ ap (λ b. cond b (Some file.text) (files.get folder name)) is

-- a name is among those besides the ones that were made, where it is among all and was not made
picked : (kept same among rest all : Bool) → (same ≡ true → kept ≡ among)
    → rest ≡ cond among false all
    → cond (not kept) (same || rest) rest ≡ cond among false (same || all)
picked true true true rest all alike e = e
picked true true false rest all alike e = absurd (false≢true (sym (alike refl)))
picked false true true rest all alike e = absurd (false≢true (alike refl))
picked false true false rest all alike e = refl
picked true false among rest all alike e = e
picked false false among rest all alike e = e

among_kept : (name other : List ℕ) (rest : List (List ℕ)) (kept : Bool)
    → is_among name (cond (not kept) (other ∷ rest) rest)
    ≡ cond (not kept) (bytes_eq name other || is_among name rest) (is_among name rest)
among_kept name other rest true = refl
among_kept name other rest false = refl

among_besides : (made : List MadeFile) (names : List (List ℕ)) (name : List ℕ)
    → is_among name (names_besides made names) ≡ cond (is_among name (map name_of made)) false (is_among name names)
among_besides made [] name = grind arith
among_besides made (other ∷ names) name =
    grind (arith, among_kept, picked, bytes_eq-Decides, among_besides made names name)

none_or : (among : Bool) (found : Option (List ℕ)) → cond among None found ≡ cond (not among) found None
none_or true found = refl
none_or false found = refl

module _ (S : StageParts) (laws : AreStages S) where
  -- The writes leave a folder with the files that were made, and without the others that the stages
  -- make.
  pub writes_leave : (made : List MadeFile) (folder : Folder)
      → folder_after (writes_for S made) folder ≡ with_files made (without_made S folder)
  unfolding writes_for
  writes_leave made folder =
      same_folder (folder_after (map put_of made ++ map Removal besides) folder)
      (with_files made (without_made S folder)) (λ name.
      ap (λ left. files.get left name)
      (folder_after_both (map put_of made) (map Removal besides) folder
      ∙ ap (folder_after (map Removal besides)) (puts_leave made folder))
      ∙ get_removed besides (with_files made folder) name
      ∙ ap (λ gone. cond gone None (files.get (with_files made folder) name))
      (among_besides made (names_made_by S.places) name)
      ∙ by name (is_among name (map name_of made)) refl)
    where
      besides : List (List ℕ)
      besides = names_besides made (names_made_by S.places)

      by : (name : List ℕ) (among : Bool) → is_among name (map name_of made) ≡ among
          → cond (cond among false (is_among name (names_made_by S.places))) None
          (files.get (with_files made folder) name) ≡ files.get (with_files made (without_made S folder)) name
      by name true is = grind (arith, same_with, false≢true)
      by name false is = grind (arith, other_with, none_or, get_part)

  -- The writes of a run over a folder leave what is there after it.
  pub after_is : (folder : Folder) → folder_after (writes_of S folder) folder ≡ after S folder
  unfolding after writes_of made_over entries_over
  after_is folder =
      let visits = (trace_over S folder (hand_of folder)).visits in
      let made = files_of visits in
      let apart = are_apart S laws folder (hand_of folder) in grind (
        arith,
        folder_after_both,
        unmet_leaves,
        files_differ,
        writes_leave,
      )

-- ---- a fresh run

keep_names_differ : differing keep_names ≡ true
keep_names_differ = refl

-- the removals of what is kept leave a folder without it
pub fresh_left : (folder : Folder)
    → folder_after (unmet folder (map Removal keep_names)) folder ≡ without_keep folder
fresh_left folder =
    unmet_leaves (map Removal keep_names) folder (ap differing (names_removed keep_names) ∙ keep_names_differ)
    ∙ same_folder (folder_after (map Removal keep_names) folder) (without_keep folder) (λ name.
    get_removed keep_names folder name ∙ none_or (is_among name keep_names) (files.get folder name)
    ∙ sym (get_part (λ name. not (is_among name keep_names)) folder name))
