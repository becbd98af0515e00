-- What was made by the stages of a chain is found among all that the chain made.
use Rattle.plan_num.proofs.Common.{arith, ◌≡◌, ℕ, ℤ, Bool, true, List, [], ◌∷◌, ◌++◌, map, filter}
use Rattle.plan_num.proofs.Common.{Option, Result, Ok, Err, refl, ap, subst, sym, ◌∙◌, append_assoc}
use Rattle.plan_num.proofs.Common.{list_all, flat_map, and_parts, map-append, list_all-map, map-map}
use Rattle.plan_files.proofs.Common.{Folder}
use Rattle.tables.specs.declared.file_id.FileId.{FileId}
use Rattle.tables.specs.declared.refusal.Refusal.{Refusal}
use Rattle.tables.proofs.Common.{file_name}
use Rattle.giv_files.specs.declared.made.Made.{Made}
use Rattle.giv_files.specs.declared.made.MadeFile.{MadeFile}
use Rattle.giv_files.specs.declared.stage.Stage.{Stage}
use Rattle.giv_files.proofs.Common.{MakesAs, ids_of, BundleParts, stage_inputs, stage_makes}
use Rattle.giv_files.specs.declared.stage.Stage.TheVariants as stage
use Rattle.stage_chain.specs.declared.cause.Cause.{Cause}
use Rattle.stage_chain.specs.declared.origin.Origin.{Origin}
use Rattle.stage_chain.specs.declared.origin.Origin.TheVariants as origin
use Rattle.stage_chain.specs.Built.{files_of}
use Rattle.stage_chain.specs.Chain.{Visit, Halt, origin_of, made_text, text_from, input_text}
use Rattle.stage_chain.specs.Chain.{chosen, with_text, texts_by, bundle_told, bundle_by}
use Rattle.stage_chain.specs.Hand.{is_among, names_made_by}
use Rattle.stage_chain.specs.Right.{files_by}
use Rattle.stage_chain.specs.Runs.{name_of}
use Rattle.stage_chain.proofs.Differing.{all_both, all_parts, Differ}
use Rattle.stage_chain.proofs.Differing.{not_among, differ_swap, differ_both, differing_parts}
use Rattle.stage_chain.proofs.Differing.{parts_differing}
use Rattle.stage_chain.proofs.MadeLists.{made_list}
use Rattle.stage_chain.proofs.MadeTexts.{names_of, text_behind, text_front, text_stays, Agree}
use Rattle.stage_chain.proofs.MadeTexts.{files_same, found_own}
use Rattle.stage_chain.proofs.Visits.{bundle_stage, IsVisit, AreVisits}
use Rattle.stage_chain.specs.StageLists.{differing, differs_from}

-- ---- what is found stays found

text_more : (text : Result (List ℕ) Cause) (rest more : Result (List (List ℕ)) Cause)
    (other : Result (List ℕ) Cause) (texts : List (List ℕ))
    → ((t : List ℕ) → text ≡ Ok t → other ≡ Ok t)
    → ((ts : List (List ℕ)) → rest ≡ Ok ts → more ≡ Ok ts)
    → with_text text rest ≡ Ok texts → with_text other more ≡ Ok texts
text_more (Err why) rest more other texts h k e = absurd (cc)
text_more (Ok text) (Err why) more other texts h k e = absurd (cc)
text_more (Ok text) (Ok found) more other texts h k e =
    ap (λ t. with_text t more) (h text refl) ∙ ap (with_text (Ok text)) (k found refl) ∙ e

module _ (look other : FileId → Result (List ℕ) Cause)
    (more : (file : FileId) (text : List ℕ) → look file ≡ Ok text → other file ≡ Ok text) (values : List ℤ) where
  texts_more : (files : List FileId) (texts : List (List ℕ)) → texts_by look values files ≡ Ok texts
      → texts_by other values files ≡ Ok texts
  texts_more [] texts e = e
  texts_more (file ∷ files) texts e =
      text_more (look (chosen values file)) (texts_by look values files) (texts_by other values files)
      (other (chosen values file)) texts (more (chosen values file)) (texts_more files) e

  told_more : (stage : Stage) (texts : Result (List (List ℕ)) Cause)
      (others : Result (List (List ℕ)) Cause) (bundle : BundleParts)
      → ((ts : List (List ℕ)) → texts ≡ Ok ts → others ≡ Ok ts)
      → bundle_told values stage texts ≡ Ok bundle → bundle_told values stage others ≡ Ok bundle
  told_more stage (Err why) others bundle h e = absurd (cc)
  told_more stage (Ok texts) others bundle h e = ap (bundle_told values stage) (h texts refl) ∙ e

  -- where a way to look finds what another one does, a stage is given the same by it
  pub bundle_more : (stage : Stage) (bundle : BundleParts) → bundle_by look values stage ≡ Ok bundle
      → bundle_by other values stage ≡ Ok bundle
  bundle_more stage bundle e =
      told_more stage (texts_by look values (stage_inputs stage)) (texts_by other values (stage_inputs stage)) bundle
      (texts_more (stage_inputs stage)) e

from_stays : (from : Origin) (hand : Folder) (made more : List MadeFile) (file : FileId)
    (text : List ℕ) → text_from from hand made file ≡ Ok text
    → text_from from hand (made ++ more) file ≡ Ok text
from_stays origin.Needed hand made more file text e = e
from_stays origin.Optional hand made more file text e = e
from_stays origin.Earlier hand made more file text e = text_stays made more file text e

-- ---- the files of a stage come of no hand

pub made_looks : (hand : Folder) (made : List MadeFile) (stage : Stage)
    → files_by (input_text hand made) (stage_makes stage) ≡ files_by (made_text made) (stage_makes stage)
made_looks hand made stage.Load = refl
made_looks hand made _ = refl

names_are : (made : List MadeFile) → map file_name (ids_of made) ≡ names_of made
names_are made = map-map file_name (λ (file : MadeFile). file.file) made

-- ---- names that are made

pub names_more : (stage : Stage) (stages : List Stage)
    → names_made_by (stage ∷ stages) ≡ map file_name (stage_makes stage) ++ names_made_by stages
names_more stage stages = map-append file_name (stage_makes stage) (flat_map stage_makes stages)

module _ (stage : Stage) (made : List MadeFile) (makes : MakesAs stage (ids_of made)) where
  -- what holds of the names that a stage makes holds of those that it made
  pub own_within : (p : List ℕ → Bool) → list_all p (map file_name (stage_makes stage)) ≡ true
      → list_all p (names_of made) ≡ true
  own_within p h = grind (arith, names_are, list_all-map, made_list)

  own_differ : differing (names_of made) ≡ true
  own_differ = ap differing (sym (names_are made)) ∙ (made_list stage (ids_of made) makes).differ

  pub own_found : files_by (made_text made) (stage_makes stage) ≡ made
  own_found =
      found_own made (stage_makes stage) own_differ
      (subst (λ names. filter (λ file. is_among (file_name file) names) (stage_makes stage) ≡ ids_of made)
      (names_are made) (made_list stage (ids_of made) makes).kept)

-- what is found of files whose names are none of those before and behind
between : (before own later : List MadeFile) (files : List FileId)
    → Differ (map file_name files) (names_of before) → Differ (map file_name files) (names_of later)
    → Agree (made_text (before ++ (own ++ later))) (made_text own) files
between before own later [] h k = tt
between before own later (file ∷ files) h k =
    let first = and_parts _ _ h in
    let second = and_parts _ _ k in grind (
      arith,
      text_behind,
      not_among,
      names_of,
      text_front,
      between before own later files first.1 second.1,
    )

-- ---- the visits of a chain

module _ (solve : BundleParts → Result Made Refusal)
    (makes : (bundle : BundleParts) (made : Made) → solve bundle ≡ Ok made → MakesAs bundle.stage (ids_of made.files))
    (values : List ℤ) (hand : Folder) where
  own_makes : (before : List MadeFile) (stage : Stage) (visit : Visit)
      → IsVisit solve values hand before stage visit → MakesAs stage (ids_of visit.made.files)
  own_makes before stage visit is =
      subst (λ own. MakesAs own (ids_of visit.made.files)) (bundle_stage values stage _ visit.bundle is.given)
      (makes visit.bundle visit.made is.solved)

  -- what holds of the names that some stages make holds of those that they made
  pub visits_within : (p : List ℕ → Bool) (before : List MadeFile) (stages : List Stage)
      (visits : List Visit) (halt : Option Halt)
      → AreVisits solve values hand before stages visits halt
      → list_all p (names_made_by stages) ≡ true → list_all p (names_of (files_of visits)) ≡ true
  visits_within p before stages [] halt are h = refl
  visits_within p before [] (visit ∷ visits) halt are h = absurd are
  visits_within p before (stage ∷ stages) (visit ∷ visits) halt are h =
      let parts = all_parts p (map file_name (stage_makes stage)) (names_made_by stages)
      (ap (list_all p) (sym (names_more stage stages)) ∙ h) in grind (
        arith,
        map-append,
        all_both,
        names_of,
        own_within,
        own_makes,
        visits_within p (before ++ visit.made.files) stages
            visits halt are.1 parts.1,
      )

  -- and they differ where these do
  pub visits_differ : (before : List MadeFile) (stages : List Stage) (visits : List Visit)
      (halt : Option Halt) → AreVisits solve values hand before stages visits halt
      → differing (names_made_by stages) ≡ true → differing (names_of (files_of visits)) ≡ true
  visits_differ before stages [] halt are h = refl
  visits_differ before [] (visit ∷ visits) halt are h = absurd are
  visits_differ before (stage ∷ stages) (visit ∷ visits) halt are h =
      let own = own_makes before stage visit are.0 in
      let parts = differing_parts (map file_name (stage_makes stage)) (names_made_by stages)
      (ap differing (sym (names_more stage stages)) ∙ h) in
      let later = names_of (files_of visits) in
      let apart = differ_swap later (map file_name (stage_makes stage))
      (visits_within (differs_from (map file_name (stage_makes stage))) (before ++ visit.made.files) stages visits halt
      are.1 (differ_swap (map file_name (stage_makes stage)) (names_made_by stages) parts.apart)) in
      ap differing (map-append name_of visit.made.files (files_of visits))
      ∙ parts_differing (names_of visit.made.files) later (record {
        front = own_differ stage visit.made.files own;
        back = visits_differ (before ++ visit.made.files) stages visits halt are.1 parts.back;
        apart = own_within stage visit.made.files own (differs_from later) apart;
      })

  -- a stage was made of what it is given over all files that were made, and what it made is found
  -- among them
  pub record IsPlaced (all : List MadeFile) (stage : Stage) (visit : Visit) : Type 0 where
    pub own : visit.bundle.stage ≡ stage
    pub given : bundle_by (input_text hand all) values stage ≡ Ok visit.bundle
    pub solved : solve visit.bundle ≡ Ok visit.made
    pub made_as : MakesAs stage (ids_of visit.made.files)
    pub found : files_by (input_text hand all) (stage_makes stage) ≡ visit.made.files

  abbrev pub ArePlaced : List MadeFile → List Stage → List Visit → Type 0
  ArePlaced all stages [] = Unit {0}
  ArePlaced all [] (visit ∷ visits) = ⊥
  ArePlaced all (stage ∷ stages) (visit ∷ visits) =
      IsPlaced all stage visit × ArePlaced all stages visits

  pub visits_placed : (before all : List MadeFile) (stages : List Stage) (visits : List Visit)
      (halt : Option Halt) → AreVisits solve values hand before stages visits halt
      → differing (names_made_by stages) ≡ true → Differ (names_made_by stages) (names_of before)
      → before ++ files_of visits ≡ all → ArePlaced all stages visits
  visits_placed before all stages [] halt are h k e = tt
  visits_placed before all [] (visit ∷ visits) halt are h k e = absurd are
  visits_placed before all (stage ∷ stages) (visit ∷ visits) halt are h k e =
      let own = own_makes before stage visit are.0 in
      let made = visit.made.files in
      let later = files_of visits in
      let names = map file_name (stage_makes stage) in
      let parts = differing_parts names (names_made_by stages) (ap differing (sym (names_more stage stages)) ∙ h) in
      let outside = all_parts (differs_from (names_of before)) names (names_made_by stages)
      (ap (list_all (differs_from (names_of before))) (sym (names_more stage stages)) ∙ k) in
      let apart = differ_swap (names_of later) names (visits_within (differs_from names) (before ++ made) stages visits
      halt are.1 (differ_swap names (names_made_by stages) parts.apart)) in
      let still = differ_both (names_made_by stages) (names_of before) (names_of made) outside.1
      (differ_swap (names_of made) (names_made_by stages)
      (own_within stage made own (differs_from (names_made_by stages)) parts.apart)) in (
        record {
          own = bundle_stage values stage _ visit.bundle are.0.given;
          given = bundle_more (input_text hand before) (input_text hand all)
              (λ file text found. subst (λ some. input_text hand some file ≡ Ok text) e
              (from_stays (origin_of file) hand before (made ++ later) file text found)) values stage visit.bundle
              are.0.given;
          solved = are.0.solved;
          made_as = own;
          found =
              made_looks hand all stage
              ∙ ap (λ some. files_by (made_text some) (stage_makes stage)) (sym e)
              ∙ files_same (made_text (before ++ (made ++ later))) (made_text made) (stage_makes stage)
              (between before made later (stage_makes stage) outside.0 apart)
              ∙ own_found stage made own;
        },
        visits_placed (before ++ made) all stages visits halt are.1 parts.back
            (subst (Differ (names_made_by stages)) (sym (map-append name_of before made)) still)
            (append_assoc before made later ∙ e),
      )
