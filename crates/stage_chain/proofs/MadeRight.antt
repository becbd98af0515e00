-- What the stages of a chain make is right, over all files that the chain made.
use Rattle.plan_num.proofs.Common.{All, Contains, arith, ◌≡◌, ℕ, ℤ, suc, List, [], ◌∷◌, length}
use Rattle.plan_num.proofs.Common.{Result, Ok, Err, refl, ap, subst, sym, ◌∙◌, All-head, All-tail}
use Rattle.stage_chain.specs.StageParts.{staged}
use Rattle.plan_files.proofs.Common.{Folder}
use Rattle.tables.specs.declared.file_id.FileId.{FileId}
use Rattle.giv_files.specs.declared.made.MadeFile.{MadeFile}
use Rattle.giv_files.specs.declared.stage.Stage.{Stage}
use Rattle.giv_files.proofs.Common.{BundleParts, Fits, stage_inputs}
use Rattle.config_keys.proofs.Common.{AreSettings, part_fits}
use Rattle.stage_chain.specs.declared.cause.Cause.{Cause}
use Rattle.stage_chain.specs.Chain.{Visit, chosen, input_text, with_text, texts_by, bundle_for}
use Rattle.stage_chain.specs.Chain.{bundle_told, bundle_by}
use Rattle.stage_chain.specs.Right.{AllStandRight}
use Rattle.stage_chain.proofs.FoundAmongAllMade.{ArePlaced}
use Rattle.stage_chain.specs.StageParts.{StageParts}
use Rattle.stage_chain.specs.Laws.{AreStages}

one_more : (text : Result (List ℕ) Cause) (rest : Result (List (List ℕ)) Cause) (count : ℕ)
    (texts : List (List ℕ)) → ((more : List (List ℕ)) → rest ≡ Ok more → length more ≡ count)
    → with_text text rest ≡ Ok texts → length texts ≡ suc count
one_more (Err why) rest count texts h e = absurd (cc)
one_more (Ok text) (Err why) count texts h e = absurd (cc)
one_more (Ok text) (Ok more) count texts h e =
    let same : text ∷ more ≡ texts = cc in sym (ap length same) ∙ ap suc (h more refl)

module _ (look : FileId → Result (List ℕ) Cause) (values : List ℤ) where
  -- there are as many texts as inputs
  texts_count : (inputs : List FileId) (texts : List (List ℕ))
      → texts_by look values inputs ≡ Ok texts → length texts ≡ length inputs
  texts_count [] texts e = let same : [] ≡ texts = cc in sym (ap length same)
  texts_count (file ∷ inputs) texts e =
      one_more (look (chosen values file)) (texts_by look values inputs) (length inputs) texts (texts_count inputs) e

  told_fits : (stage : Stage) (texts : Result (List (List ℕ)) Cause) (bundle : BundleParts)
      → AreSettings values
      → ((some : List (List ℕ)) → texts ≡ Ok some → length some ≡ length (stage_inputs stage))
      → bundle_told values stage texts ≡ Ok bundle → Fits bundle
  told_fits stage (Err why) bundle are count e = absurd (cc)
  told_fits stage (Ok texts) bundle are count e =
      let same : bundle_for values stage texts ≡ bundle = cc in
      subst Fits same (record { settings = part_fits values stage are; inputs = count texts refl })

  -- what a stage is given fits it
  pub given_fits : (stage : Stage) (bundle : BundleParts) → AreSettings values
      → bundle_by look values stage ≡ Ok bundle → Fits bundle
  given_fits stage bundle are e =
      told_fits stage (texts_by look values (stage_inputs stage)) bundle are (texts_count (stage_inputs stage)) e

module _ (S : StageParts) (laws : AreStages S) where
  -- each stage of a chain makes what is right
  pub visits_right : (values : List ℤ) (hand : Folder) (are : AreSettings values)
      (all : List MadeFile) (stages : List Stage) (visits : List Visit)
      → All (Contains (staged S values)) stages
      → ArePlaced S.run laws.makes values hand all stages visits
      → AllStandRight S (input_text hand all) values visits
  visits_right values hand are all stages [] run placed = tt
  visits_right values hand are all [] (visit ∷ visits) run placed = absurd placed
  visits_right values hand are all (stage ∷ stages) (visit ∷ visits) run placed =
      grind (
        arith,
        All-head,
        given_fits,
        All-tail,
        visits_right values hand are all stages visits (All-tail (Contains (staged S values)) stage stages run)
            placed.1,
      )
