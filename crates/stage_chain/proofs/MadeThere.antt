-- The files of a stage that stand in a folder, one after the other.
use Rattle.plan_num.proofs.Common.{arith, ◌≡◌, ℕ, ◌+◌, ◌<◌, ◌≤◌, Bool, true, false, cond, ◌||◌}
use Rattle.plan_num.proofs.Common.{List, [], ◌∷◌, ◌++◌, length, get_or, drop, Option, Some, None}
use Rattle.plan_num.proofs.Common.{IfSome, refl, ap, sym, ◌∙◌, append-nil, append_assoc, list_any}
use Rattle.plan_num.proofs.Common.{ok_or, at_drop_more, at_drop_all}
use Rattle.std.specs.FinMap as map
use Rattle.plan_files.proofs.Common.{Folder}
use Rattle.tables.specs.declared.file_id.FileId.{FileId}
use Rattle.tables.proofs.Common.{file_name}
use Rattle.giv_files.specs.declared.made.MadeFile.{MadeFile}
use Rattle.giv_files.specs.declared.stage.Stage.{Stage}
use Rattle.giv_files.proofs.Common.{stage_makes}
use Rattle.stage_chain.specs.declared.cause.Cause.TheVariants as cause
use Rattle.stage_chain.specs.Checks.{found_one, is_lacking}
use Rattle.stage_chain.specs.Right.{files_by, found_file, made_in}

-- those of some files that are there; none where one is lacking
abbrev pub all_there : Folder → List FileId → Option (List MadeFile)
all_there folder files =
    cond (list_any (λ file. is_lacking file (map.get folder (file_name file))) files) None
    (Some (files_by (made_in folder) files))

-- files, and then others that may be lacking
abbrev pub joined : List MadeFile → Option (List MadeFile) → Option (List MadeFile)
joined there None = None
joined there (Some more) = Some (there ++ more)

module _ (folder : Folder) where
  abbrev text : FileId → Option (List ℕ)
  text file = map.get folder (file_name file)

  one_there : (file : FileId) (found : Option (List ℕ)) (lacks : Bool) (there more : List MadeFile)
      → is_lacking file found ≡ false
      → joined (there ++ found_one file found) (cond lacks None (Some more))
      ≡ joined there
      (cond (is_lacking file found || lacks) None (Some (found_file file (ok_or found (cause.Missing file)) more)))
  one_there file (Some bytes) true there more h = refl
  one_there file (Some bytes) false there more h =
      ap Some (append_assoc there (record { file = file; text = bytes } ∷ []) more)
  one_there file None true there more h = rw h refl
  one_there file None false there more h =
      rw h (ap (λ front. Some (front ++ more)) (append-nil there))

  -- the next file is there, or it is a certificate
  pub there_more : (files : List FileId) (i : ℕ) (d : FileId) (found : Option (List ℕ))
      (there : List MadeFile) → i < length files → found ≡ text (get_or files i d)
      → is_lacking (get_or files i d) found ≡ false
      → joined there (all_there folder (drop i files)) ≡ all_there folder files
      → joined (there ++ found_one (get_or files i d) found) (all_there folder (drop (i + 1) files))
      ≡ all_there folder files
  there_more files i d found there inside is kept so_far =
      let file = get_or files i d in
      one_there file found (list_any (λ file. is_lacking file (text file)) (drop (i + 1) files)) there
      (files_by (made_in folder) (drop (i + 1) files)) kept
      ∙ ap (λ found. joined there
      (cond (is_lacking file found || list_any (λ file. is_lacking file (text file)) (drop (i + 1) files)) None
      (Some (found_file file (ok_or found (cause.Missing file)) (files_by (made_in folder) (drop (i + 1) files)))))) is
      ∙ sym (at_drop_more (λ rest. joined there (all_there folder rest)) files i d inside)
      ∙ so_far

  -- the next file is lacking
  pub there_all : (files : List FileId) (i : ℕ) (there : List MadeFile) → length files ≤ i
      → joined there (all_there folder (drop i files)) ≡ all_there folder files
      → Some there ≡ all_there folder files
  there_all files i there past so_far =
      sym (ap Some (append-nil there))
      ∙ sym (at_drop_all (λ rest. joined there (all_there folder rest)) files i past) ∙ so_far

-- the same in a folder that may be told
pub told_more : (contents now : Option Folder) (files : List FileId) (i : ℕ) (d : FileId)
    (found : Option (List ℕ)) (there next : List MadeFile) → i < length files → now ≡ contents
    → IfSome now (λ folder. found ≡ map.get folder (file_name (get_or files i d)))
    → is_lacking (get_or files i d) found ≡ false
    → next ≡ there ++ found_one (get_or files i d) found
    → IfSome contents (λ folder. joined there (all_there folder (drop i files)) ≡ all_there folder files)
    → IfSome contents (λ folder. joined next (all_there folder (drop (i + 1) files)) ≡ all_there folder files)
told_more None now files i d found there next inside same is kept more so_far = tt
told_more (Some folder) now files i d found there next inside same is kept more so_far =
    grind (arith, get_or, there_more)

pub told_all : (contents : Option Folder) (stage : Stage) (files : List FileId) (i : ℕ)
    (there : List MadeFile) → length files ≤ i → files ≡ stage_makes stage
    → IfSome contents (λ folder. joined there (all_there folder (drop i files)) ≡ all_there folder files)
    → IfSome contents (λ folder. Some there ≡ all_there folder (stage_makes stage))
told_all None stage files i there past own so_far = tt
told_all (Some folder) stage files i there past own so_far =
    there_all folder files i there past so_far ∙ ap (all_there folder) own

pub told_none : (contents : Option Folder) (files : List FileId)
    → IfSome contents (λ folder. joined [] (all_there folder files) ≡ all_there folder files)
told_none None files = tt
told_none (Some folder) files = grind arith
