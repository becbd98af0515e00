-- The texts of files that were made.
use Rattle.plan_num.proofs.Common.{arith, ◌≡◌, ℕ, Bool, true, false, cond, List, [], ◌∷◌, ◌++◌, map}
use Rattle.plan_num.proofs.Common.{filter, Result, Ok, Err, refl, ap, subst, sym, ◌∙◌, append_assoc}
use Rattle.plan_num.proofs.Common.{and_parts, or_parts, map-append, bytes_eq-Decides}
use Rattle.tables.specs.declared.file_id.FileId.{FileId}
use Rattle.tables.proofs.Common.{file_name}
use Rattle.giv_files.specs.declared.made.MadeFile.{MadeFile}
use Rattle.giv_files.proofs.Common.{ids_of}
use Rattle.stage_chain.specs.declared.cause.Cause.{Cause}
use Rattle.stage_chain.specs.declared.cause.Cause.TheVariants as cause
use Rattle.stage_chain.specs.Chain.{is_file, made_text}
use Rattle.stage_chain.specs.Hand.{is_among}
use Rattle.stage_chain.specs.Right.{found_file, files_by}
use Rattle.stage_chain.specs.Runs.{name_of}
use Rattle.stage_chain.proofs.Differing.{differ_swap, same_way}
use Rattle.stage_chain.proofs.Differing.{differing_parts, not_among}
use Rattle.stage_chain.specs.StageLists.{differing, differs_from}

-- the names of made files
abbrev pub names_of : List MadeFile → List (List ℕ)
names_of made = map name_of made

-- a file that is not among those that were made has no text there
pub text_nowhere : (made : List MadeFile) (file : FileId)
    → is_among (file_name file) (names_of made) ≡ false
    → made_text made file ≡ Err (cause.Missing file)
text_nowhere [] file out = refl
text_nowhere (other ∷ made) file out =
    ap (λ b. cond b (Ok other.text) (made_text made file))
    (same_way (name_of other) (file_name file) ∙ (or_parts _ _ out).0) ∙ text_nowhere made file (or_parts _ _ out).1

-- and one among those behind has the text there
pub text_behind : (made more : List MadeFile) (file : FileId)
    → is_among (file_name file) (names_of made) ≡ false
    → made_text (made ++ more) file ≡ made_text more file
text_behind [] more file out = refl
text_behind (other ∷ made) more file out =
    ap (λ b. cond b (Ok other.text) (made_text (made ++ more) file))
    (same_way (name_of other) (file_name file) ∙ (or_parts _ _ out).0) ∙ text_behind made more file (or_parts _ _ out).1

pub text_front : (made more : List MadeFile) (file : FileId)
    → is_among (file_name file) (names_of more) ≡ false
    → made_text (made ++ more) file ≡ made_text made file
text_front [] more file out = text_nowhere more file out
text_front (other ∷ made) more file out =
    ap (λ rest. cond (is_file other.file file) (Ok other.text) rest) (text_front made more file out)

-- what is found among made files stays found when files are appended
pub text_stays : (made more : List MadeFile) (file : FileId) (text : List ℕ)
    → made_text made file ≡ Ok text → made_text (made ++ more) file ≡ Ok text
text_stays [] more file text e = absurd (cc)
text_stays (other ∷ made) more file text e =
    by (is_file other.file file) (text_stays made more file text) e
  where
    by : (here : Bool) → (made_text made file ≡ Ok text → made_text (made ++ more) file ≡ Ok text)
        → cond here (Ok other.text) (made_text made file) ≡ Ok text
        → cond here (Ok other.text) (made_text (made ++ more) file) ≡ Ok text
    by true rest e = e
    by false rest e = rest e

-- ---- files by what is found of each

-- two ways to look find the same of each of some files
abbrev pub Agree : (FileId → Result (List ℕ) Cause) → (FileId → Result (List ℕ) Cause) → List FileId
    → Type 0
Agree look other [] = Unit {0}
Agree look other (file ∷ files) = (look file ≡ other file) × Agree look other files

pub files_same : (look other : FileId → Result (List ℕ) Cause) (files : List FileId)
    → Agree look other files → files_by look files ≡ files_by other files
files_same look other [] h = refl
files_same look other (file ∷ files) h =
    ap (λ found. found_file file found (files_by look files)) h.0
    ∙ ap (found_file file (other file)) (files_same look other files h.1)

-- files that are not found can be left out
found_kept : (made : List MadeFile) (files : List FileId)
    → files_by (made_text made) files
    ≡ files_by (made_text made) (filter (λ file. is_among (file_name file) (names_of made)) files)
found_kept made [] = refl
found_kept made (file ∷ files) = grind (arith, text_nowhere, found_kept made files)

found_from : (front made : List MadeFile) → differing (names_of (front ++ made)) ≡ true
    → files_by (made_text (front ++ made)) (ids_of made) ≡ made
found_from front [] h = refl
found_from front (file ∷ made) h =
    let parts = differing_parts (names_of front) (names_of (file ∷ made))
    (ap differing (sym (map-append name_of front (file ∷ made))) ∙ h) in
    let out = not_among (names_of front) (name_of file) (and_parts (differs_from (names_of front) (name_of file)) _
    (differ_swap (names_of front) (name_of file ∷ names_of made) parts.apart)).0 in
    let here : made_text (front ++ file ∷ made) file.file ≡ Ok file.text = grind (
      arith,
      text_behind,
      bytes_eq-Decides,
    ) in
    let joined : (front ++ file ∷ []) ++ made ≡ front ++ file ∷ made = append_assoc front (file ∷ []) made in
    ap (λ found. found_file file.file found (files_by (made_text (front ++ file ∷ made)) (ids_of made))) here
    ∙ ap (λ more. file ∷ more)
    (subst (λ all. files_by (made_text all) (ids_of made) ≡ made) joined
    (found_from (front ++ file ∷ []) made (ap (λ all. differing (names_of all)) joined ∙ h)))

-- of the files that a stage may make, those that it made are found among them
pub found_own : (made : List MadeFile) (files : List FileId) → differing (names_of made) ≡ true
    → filter (λ file. is_among (file_name file) (names_of made)) files ≡ ids_of made
    → files_by (made_text made) files ≡ made
found_own made files apart kept =
    found_kept made files ∙ ap (files_by (made_text made)) kept ∙ found_from [] made apart

-- ---- the text of a file among files that were made, and others after them

abbrev pub or_text : Result (List ℕ) Cause → Result (List ℕ) Cause → Result (List ℕ) Cause
or_text (Ok text) other = Ok text
or_text (Err why) other = other

pub text_both : (made more : List MadeFile) (file : FileId)
    → made_text (made ++ more) file ≡ or_text (made_text made file) (made_text more file)
text_both [] more file = refl
text_both (other ∷ made) more file = by (is_file other.file file) (text_both made more file)
  where
    by : (here : Bool) → made_text (made ++ more) file ≡ or_text (made_text made file) (made_text more file)
        → cond here (Ok other.text) (made_text (made ++ more) file)
        ≡ or_text (cond here (Ok other.text) (made_text made file)) (made_text more file)
    by true rest = refl
    by false rest = rest

pub or_missing : (made : List MadeFile) (file : FileId)
    → or_text (made_text made file) (Err (cause.Missing file)) ≡ made_text made file
or_missing [] file = refl
or_missing (other ∷ made) file = by (is_file other.file file) (or_missing made file)
  where
    by : (here : Bool) → or_text (made_text made file) (Err (cause.Missing file)) ≡ made_text made file
        → or_text (cond here (Ok other.text) (made_text made file)) (Err (cause.Missing file))
        ≡ cond here (Ok other.text) (made_text made file)
    by true rest = refl
    by false rest = rest
