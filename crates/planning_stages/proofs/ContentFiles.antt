-- Files of a stage, where they stand in a folder: which are there, where none lacks; and those that
-- are to be what their stage makes of its inputs.
use Rattle.plan_num.proofs.Common.{◌≡◌, ℕ, Bool, true, false, cond, not, is_some, ◌||◌, List, []}
use Rattle.plan_num.proofs.Common.{◌∷◌, Option, Some, None, Result, Ok, Err, refl, ap, subst, sym}
use Rattle.plan_num.proofs.Common.{◌∙◌, arith, Contains, list_any, ok_or, true≢false}
use Rattle.std.specs.FinMap as map
use Rattle.plan_files.proofs.Common.{Folder}
use Rattle.tables.specs.declared.file_id.FileId.{FileId}
use Rattle.giv_files.specs.declared.made.Made.{Made}
use Rattle.giv_files.specs.declared.made.MadeFile.{MadeFile}
use Rattle.tables.specs.declared.refusal.Refusal.{Refusal}
use Rattle.tables.specs.declared.file_id.FileId.TheVariants as file
use Rattle.giv_files.specs.declared.stage.Stage.{Stage}
use Rattle.tables.proofs.Common.{file_name}
use Rattle.giv_files.proofs.Common.{MakesAs, ids_of, made_lists, stage_makes}
use Rattle.stage_chain.specs.declared.cause.Cause.TheVariants as cause
use Rattle.stage_chain.specs.declared.finding.Finding.{Finding}
use Rattle.planning_stages.specs.Verdicts.{content_found, same_texts}
use Rattle.stage_chain.specs.Checks.{is_certificate, is_lacking, lacks_file, standing}
use Rattle.stage_chain.specs.Right.{files_by, found_file, made_in}
use Rattle.stage_chain.proofs.MadeLists.{only_one}
use Rattle.planning_stages.proofs.SameTexts.{own_texts, same_files}

-- ---- files that are found

module _ (folder : Folder) where
  abbrev text : FileId → Option (List ℕ)
  text file = map.get folder (file_name file)

  abbrev lacks : List FileId → Bool
  lacks files = list_any (λ file. is_lacking file (text file)) files

  abbrev there : List FileId → List MadeFile
  there files = files_by (made_in folder) files

  -- a file, where it is found, and others behind it
  abbrev with_one : FileId → Option (List ℕ) → List FileId → List MadeFile
  with_one file found files = found_file file (ok_or found (cause.Missing file)) (there files)

  abbrev is_there : FileId → Bool
  is_there file = is_some (text file)

  -- where none of two lacks, of which the first one has to be there, they are both, or that one
  pub either_stand : (first second : FileId) → is_certificate first ≡ false → lacks (first ∷ second ∷ []) ≡ false
      → Contains ((first ∷ second ∷ []) ∷ (first ∷ []) ∷ []) (ids_of (there (first ∷ second ∷ [])))
  either_stand first second needed = by (text first) (text second)
    where
      by : (one other : Option (List ℕ)) → (is_lacking first one || (is_lacking second other || false)) ≡ false
          → Contains ((first ∷ second ∷ []) ∷ (first ∷ []) ∷ [])
          (ids_of
          (found_file first (ok_or one (cause.Missing first))
          (found_file second (ok_or other (cause.Missing second)) [])))
      by (Some bytes) (Some more) none = (0, omega arith, refl)
      by (Some bytes) None none = (1, omega arith, refl)
      by None other none =
          absurd (true≢false (ap (λ b. not b || (is_lacking second other || false)) (sym needed) ∙ none))

  -- where something is found of the first one alone, and nothing of what is there, they are both
  pub both_stand : (first second : FileId) → is_certificate first ≡ false → lacks (first ∷ second ∷ []) ≡ false
      → (verdict : List MadeFile → Option Finding)
      → ((bytes : List ℕ) → verdict (record { file = first; text = bytes } ∷ []) ≡ None → ⊥)
      → verdict (there (first ∷ second ∷ [])) ≡ None
      → Contains ((first ∷ second ∷ []) ∷ []) (ids_of (there (first ∷ second ∷ [])))
  both_stand first second needed lacking verdict alone = grind (arith, true≢false)

-- the same of files in the place of a stage that makes the same
pub all_there : (at : Stage) (folder : Folder) (files : List FileId) → stage_makes at ≡ files
    → MakesAs at (ids_of (files_by (made_in folder) files))
    → list_any (λ file. is_lacking file (map.get folder (file_name file))) files ≡ false
all_there at folder files is = grind arith

-- ---- a stage whose files are judged by their contents

-- in a folder where none lacks, and none may be left out, they are those that it may make
pub content_stands : (at : Stage) → made_lists at ≡ stage_makes at ∷ []
    → list_any is_certificate (stage_makes at) ≡ false → (folder : Folder) → lacks_file folder at ≡ false
    → MakesAs at (ids_of (standing folder at))
content_stands at lists needed folder none = grind arith

-- nothing is found of those that it made
pub content_none : (at : Stage) (told : Result Made Refusal) (made : Made) → told ≡ Ok made
    → content_found at told made.files ≡ None
content_none at told made is = rw (is, own_texts made.files) refl

none_of : (same : Bool) (found : Finding) → cond same None (Some found) ≡ None → same ≡ true
none_of true found is = refl
none_of false found is = absurd (cc)

-- files that are what their stage makes are right as those are
pub content_right : (at : Stage) → made_lists at ≡ stage_makes at ∷ [] → (IsRight : List MadeFile → Type 0)
    (others : List MadeFile) (told : Result Made Refusal)
    → ((made : Made) → told ≡ Ok made → MakesAs at (ids_of made.files) × IsRight made.files)
    → MakesAs at (ids_of others) → content_found at told others ≡ None → IsRight others
content_right at lists IsRight others (Err reason) made_right makes none = absurd (cc)
content_right at lists IsRight others (Ok made) made_right makes none =
    let own = made_right made refl in
    let same = same_files made.files others (none_of (same_texts made.files others) _ none)
    (sym (the_files (ids_of made.files) own.0) ∙ the_files (ids_of others) makes) in
    subst IsRight same own.1
  where
    the_files : (ids : List FileId) → MakesAs at ids → stage_makes at ≡ ids
    the_files ids makes = only_one (stage_makes at) ids (subst (λ lists. Contains lists ids) lists makes)
