-- The inputs of a stage, one after the other.
use Rattle.plan_num.proofs.Common.{arith, ◌≡◌, ℕ, ℤ, ◌+◌, ◌<◌, ◌≤◌, List, [], ◌∷◌, ◌++◌, length}
use Rattle.plan_num.proofs.Common.{get_or, drop, Option, Some, None, IfSome, Result, Ok, Err, refl}
use Rattle.plan_num.proofs.Common.{ap, sym, ◌∙◌, append-nil, append_assoc, at_drop_more}
use Rattle.plan_num.proofs.Common.{at_drop_all}
use Rattle.plan_files.proofs.Common.{Folder}
use Rattle.tables.specs.declared.file_id.FileId.{FileId}
use Rattle.giv_files.specs.declared.stage.Stage.{Stage}
use Rattle.giv_files.proofs.Common.{BundleParts}
use Rattle.stage_chain.specs.declared.cause.Cause.{Cause}
use Rattle.stage_chain.specs.declared.chain_end.ChainEnd.{ChainEnd}
use Rattle.stage_chain.specs.declared.chain_end.ChainEnd.TheVariants as end
use Rattle.stage_chain.specs.Chain.{chosen, with_text, texts_by, bundle_for}
use Rattle.stage_chain.specs.Chain.{bundle_told}
use Rattle.stage_chain.specs.Ends.{Gives}

-- texts that are there, and then others
abbrev pub behind : List (List ℕ) → Result (List (List ℕ)) Cause → Result (List (List ℕ)) Cause
behind texts (Ok more) = Ok (texts ++ more)
behind texts (Err why) = Err why

behind_one : (texts : List (List ℕ)) (text : List ℕ) (more : Result (List (List ℕ)) Cause)
    → behind texts (with_text (Ok text) more) ≡ behind (texts ++ text ∷ []) more
behind_one texts text (Ok more) = ap Ok (sym (append_assoc texts (text ∷ []) more))
behind_one texts text (Err why) = refl

module _ (values : List ℤ) (look : FileId → Result (List ℕ) Cause) where
  abbrev all : List FileId → Result (List (List ℕ)) Cause
  all files = texts_by look values files

  -- the next text is there
  pub text_more : (files : List FileId) (i : ℕ) (d : FileId) (texts : List (List ℕ)) (text : List ℕ)
      → i < length files → look (chosen values (get_or files i d)) ≡ Ok text
      → behind texts (all (drop i files)) ≡ all files
      → behind (texts ++ text ∷ []) (all (drop (i + 1) files)) ≡ all files
  text_more files i d texts text inside is so_far =
      sym (behind_one texts text (all (drop (i + 1) files)))
      ∙ ap (λ next. behind texts (with_text next (all (drop (i + 1) files)))) (sym is)
      ∙ sym (at_drop_more (λ rest. behind texts (all rest)) files i d inside)
      ∙ so_far

  -- all texts are there
  pub text_all : (files : List FileId) (i : ℕ) (texts : List (List ℕ)) → length files ≤ i
      → behind texts (all (drop i files)) ≡ all files → all files ≡ Ok texts
  text_all files i texts past so_far =
      sym so_far ∙ at_drop_all (λ rest. behind texts (all rest)) files i past
      ∙ ap Ok (append-nil texts)

-- the same in a folder that may be told
module _ (look : Folder → FileId → Result (List ℕ) Cause) (values : List ℤ) where
  abbrev pub so_far_in : List FileId → List FileId → List (List ℕ) → Folder → Type 0
  so_far_in files rest texts folder =
      behind texts (texts_by (look folder) values rest) ≡ texts_by (look folder) values files

  pub told_more : (contents now : Option Folder) (files : List FileId) (i : ℕ) (d : FileId)
      (texts next : List (List ℕ)) (text : List ℕ) → i < length files → now ≡ contents
      → IfSome now (λ folder. look folder (chosen values (get_or files i d)) ≡ Ok text)
      → next ≡ texts ++ text ∷ []
      → IfSome contents (so_far_in files (drop i files) texts)
      → IfSome contents (so_far_in files (drop (i + 1) files) next)
  told_more None now files i d texts next text inside same is more so_far = tt
  told_more (Some folder) now files i d texts next text inside same is more so_far =
      grind (arith, get_or, text_more)

  pub told_all : (contents : Option Folder) (files inputs : List FileId) (i : ℕ) (stage : Stage)
      (bundle : BundleParts) → length files ≤ i → files ≡ inputs
      → bundle ≡ bundle_for values stage bundle.inputs
      → IfSome contents (so_far_in files (drop i files) bundle.inputs)
      → IfSome contents (λ folder. bundle_told values stage (texts_by (look folder) values inputs) ≡ Ok bundle)
  told_all None files inputs i stage bundle past same is so_far = tt
  told_all (Some folder) files inputs i stage bundle past same is so_far = grind (arith, text_all)

  ended : (folder : Folder) (files inputs : List FileId) (i : ℕ) (d : FileId) (stage : Stage)
      (texts : List (List ℕ)) (end : ChainEnd) → i < length files → files ≡ inputs
      → Gives {T = List ℕ} (look folder (chosen values (get_or files i d))) (Err end)
      → so_far_in files (drop i files) texts folder
      → Gives {T = BundleParts} (bundle_told values stage (texts_by (look folder) values inputs)) (Err end)
  ended folder files inputs i d stage texts (end.Stopped why) inside same is so_far =
      let all = texts_by (look folder) values in
      ap (λ inputs. bundle_told values stage (all inputs)) (sym same)
      ∙ ap (bundle_told values stage)
      (sym so_far ∙ at_drop_more (λ rest. behind texts (all rest)) files i d inside
      ∙ ap (λ next. behind texts (with_text next (all (drop (i + 1) files)))) is)
  ended folder files inputs i d stage texts end.FileFault inside same is so_far = tt
  ended folder files inputs i d stage texts end.NoMemory inside same is so_far = tt

  pub told_ended : (contents now : Option Folder) (files inputs : List FileId) (i : ℕ) (d : FileId)
      (stage : Stage) (texts : List (List ℕ)) (file : FileId) (end : ChainEnd)
      (result : Result BundleParts ChainEnd)
      → i < length files → now ≡ contents → files ≡ inputs → file ≡ chosen values (get_or files i d)
      → IfSome now (λ folder. Gives {T = List ℕ} (look folder file) (Err end))
      → IfSome contents (so_far_in files (drop i files) texts) → result ≡ Err end
      → IfSome contents (λ folder. Gives (bundle_told values stage (texts_by (look folder) values inputs)) result)
  told_ended None now files inputs i d stage texts file end result inside here same at is so_far e = tt
  told_ended (Some folder) now files inputs i d stage texts file end result inside here same own is so_far e =
      grind (arith, ended)
