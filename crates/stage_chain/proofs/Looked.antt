-- One look of texts, in which each file has one.
use Rattle.plan_num.proofs.Common.{arith, ◌≡◌, ℕ, ℤ, List, [], ◌∷◌, ◌++◌, map, Result, Ok, Err}
use Rattle.plan_num.proofs.Common.{refl, ap, sym, ◌∙◌}
use Rattle.tables.specs.declared.file_id.FileId.{FileId}
use Rattle.giv_files.specs.declared.stage.Stage.{Stage}
use Rattle.giv_files.proofs.Common.{ids_of, BundleParts, stage_inputs}
use Rattle.stage_chain.specs.declared.cause.Cause.{Cause}
use Rattle.stage_chain.specs.Chain.{bundle_for, bundle_told, bundle_by, chosen, texts_by, with_text}
use Rattle.stage_chain.specs.Laws.{bundle_over, files_over}
use Rattle.stage_chain.specs.Right.{files_by}

pub text_or : Result (List ℕ) Cause → List ℕ
text_or (Ok text) = text
text_or (Err why) = []

module _ (look : FileId → Result (List ℕ) Cause) where
  abbrev pub looked : FileId → List ℕ
  looked file = text_or (look file)

  one_looked : (text : Result (List ℕ) Cause) (rest : Result (List (List ℕ)) Cause)
      (some texts : List (List ℕ)) → ((found : List (List ℕ)) → rest ≡ Ok found → some ≡ found)
      → with_text text rest ≡ Ok texts → text_or text ∷ some ≡ texts
  unfolding text_or
  one_looked (Err why) rest some texts h e = absurd (cc)
  one_looked (Ok text) (Err why) some texts h e = absurd (cc)
  one_looked (Ok text) (Ok found) some texts h e =
      let same : text ∷ found ≡ texts = cc in ap (λ more. text ∷ more) (h found refl) ∙ same

  pub texts_looked : (values : List ℤ) (inputs : List FileId) (texts : List (List ℕ))
      → texts_by look values inputs ≡ Ok texts
      → map (λ file. looked (chosen values file)) inputs ≡ texts
  texts_looked values [] texts e = cc
  texts_looked values (file ∷ inputs) texts e =
      one_looked (look (chosen values file)) (texts_by look values inputs)
      (map (λ file. looked (chosen values file)) inputs) texts (texts_looked values inputs) e

  told_looked : (values : List ℤ) (stage : Stage) (texts : Result (List (List ℕ)) Cause)
      (some : List (List ℕ)) (bundle : BundleParts)
      → ((found : List (List ℕ)) → texts ≡ Ok found → some ≡ found)
      → bundle_told values stage texts ≡ Ok bundle → bundle_for values stage some ≡ bundle
  told_looked values stage (Err why) some bundle h e = absurd (cc)
  told_looked values stage (Ok texts) some bundle h e =
      let same : bundle_for values stage texts ≡ bundle = cc in ap (bundle_for values stage) (h texts refl)
      ∙ same

  pub bundle_looked : (values : List ℤ) (stage : Stage) (bundle : BundleParts)
      → bundle_told values stage (texts_by look values (stage_inputs stage)) ≡ Ok bundle
      → bundle_over values looked stage ≡ bundle
  bundle_looked values stage bundle e =
      told_looked values stage (texts_by look values (stage_inputs stage))
      (map (λ file. looked (chosen values file)) (stage_inputs stage)) bundle
      (texts_looked values (stage_inputs stage)) e

  pub files_looked : (some : List FileId)
      → files_over looked (ids_of (files_by look some)) ≡ files_by look some
  unfolding text_or
  files_looked [] = refl
  files_looked (file ∷ some) = grind (arith, text_or, files_looked some)

  -- ---- the first inputs of a stage

  one_there : (text : Result (List ℕ) Cause) (rest front : Result (List (List ℕ)) Cause)
      (some texts : List (List ℕ))
      → ((found : List (List ℕ)) → rest ≡ Ok found → front ≡ Ok some)
      → with_text text rest ≡ Ok texts → with_text text front ≡ Ok (text_or text ∷ some)
  unfolding text_or
  one_there (Err why) rest front some texts h e = absurd (cc)
  one_there (Ok text) (Err why) front some texts h e = absurd (cc)
  one_there (Ok text) (Ok found) front some texts h e = ap (with_text (Ok text)) (h found refl)

  front_there : (values : List ℤ) (inputs more : List FileId) (texts : List (List ℕ))
      → texts_by look values (inputs ++ more) ≡ Ok texts
      → texts_by look values inputs ≡ Ok (map (λ file. looked (chosen values file)) inputs)
  front_there values [] more texts e = refl
  front_there values (file ∷ inputs) more texts e =
      one_there (look (chosen values file)) (texts_by look values (inputs ++ more)) (texts_by look values inputs)
      (map (λ file. looked (chosen values file)) inputs) texts (front_there values inputs more) e

  told_there : (values : List ℤ) (stage : Stage) (texts : Result (List (List ℕ)) Cause)
      (bundle : BundleParts) {T : Type 0}
      → ((found : List (List ℕ)) → texts ≡ Ok found → T)
      → bundle_told values stage texts ≡ Ok bundle → T
  told_there values stage (Err why) bundle h e = absurd (cc)
  told_there values stage (Ok texts) bundle h e = h texts refl

  -- where a stage has its inputs, one that takes the first of them has these
  pub front_given : (values : List ℤ) (stage place : Stage) (more : List FileId) (bundle : BundleParts)
      → stage_inputs stage ≡ stage_inputs place ++ more → bundle_by look values stage ≡ Ok bundle
      → bundle_by look values place ≡ Ok (bundle_over values looked place)
  front_given values stage place more bundle same given =
      told_there values stage (texts_by look values (stage_inputs stage)) bundle
      (λ texts found. ap (bundle_told values place)
      (front_there values (stage_inputs place) more texts (ap (texts_by look values) (sym same) ∙ found))) given
