-- A chain depends on hand files alone.
use Rattle.plan_num.proofs.Common.{arith, ◌≡◌, ℕ, ℤ, Bool, true, false, cond, List, [], ◌∷◌, ◌++◌}
use Rattle.plan_num.proofs.Common.{codes, None, Result, Ok, Err, refl, ap, sym, ◌∙◌, bytes_eq}
use Rattle.plan_num.proofs.Common.{false≢true, bytes_eq-Decides}
use Rattle.stage_chain.specs.StageParts.{staged}
use Rattle.std.specs.FinMap as files
use Rattle.plan_files.proofs.Common.{Folder, found, get_part}
use Rattle.tables.specs.declared.file_id.FileId.{FileId}
use Rattle.tables.specs.declared.refusal.Refusal.{Refusal}
use Rattle.tables.proofs.Common.{file_name}
use Rattle.tables.specs.declared.file_id.FileId.TheVariants as file
use Rattle.giv_files.specs.declared.made.Made.{Made}
use Rattle.giv_files.specs.declared.made.MadeFile.{MadeFile}
use Rattle.giv_files.specs.declared.stage.Stage.{Stage}
use Rattle.giv_files.proofs.Common.{BundleParts, stage_inputs}
use Rattle.config_keys.specs.declared.config_fault.ConfigFault.{ConfigFault}
use Rattle.config_keys.proofs.Common.{is_inside, path_of, look_in, config_name, file_limit}
use Rattle.config_keys.proofs.Common.{effective, effective_same}
use Rattle.stage_chain.specs.Hand.{is_hand, hand_of}
use Rattle.stage_chain.specs.Chain.{hand_text, input_text, texts_of}
use Rattle.stage_chain.specs.Chain.{bundle_told, tried, go_on, visit_of, chain_from, to_run}
use Rattle.stage_chain.specs.Built.{chain_under}
use Rattle.stage_chain.specs.Kept.{trace_over}
use Rattle.stage_chain.specs.StageParts.{StageParts}
use Rattle.stage_chain.specs.Laws.{AreStages}

-- under the name of a hand file the hand files have what the folder has
pub look_same : (folder : Folder) (name : List ℕ) → is_hand name ≡ true
    → look_in (hand_of folder) name ≡ look_in folder name
unfolding hand_of
look_same folder name is =
    ap (λ bytes. found bytes file_limit)
    (get_part is_hand folder name ∙ ap (λ b. cond b (files.get folder name) None) is)

not_costs : (name : List ℕ) (b : Bool) → is_inside name ≡ true
    → bytes_eq name (codes "Pool-Cost.giv") ≡ b → b ≡ false
not_costs name true inside is =
    absurd (false≢true (sym (ap is_inside ((bytes_eq-Decides name (codes "Pool-Cost.giv")).0 is)) ∙ inside))
not_costs name false inside is = refl

-- every file that a config can name is a hand file
pub path_is_hand : (name : List ℕ) → is_inside name ≡ true → is_hand (path_of name) ≡ true
unfolding is_hand
path_is_hand name inside =
    let other : bytes_eq name (codes "Pool-Cost.giv") ≡ false =
    not_costs name (bytes_eq name (codes "Pool-Cost.giv")) inside refl in
    rw other refl

pub config_is_hand : is_hand config_name ≡ true
unfolding is_hand
config_is_hand = refl

pub settings_same : (folder : Folder)
    → effective (look_in (hand_of folder)) ≡ effective (look_in folder)
settings_same folder =
    effective_same (look_in (hand_of folder)) (look_in folder)
    (λ name inside. look_same folder (path_of name) (path_is_hand name inside))
    (look_same folder config_name config_is_hand)

module _ (S : StageParts) (laws : AreStages S) where
  module _ (folder : Folder) where
    found_same : (optional : Bool) (file : FileId) → is_hand (file_name file) ≡ true
        → hand_text optional file (look_in (hand_of folder) (file_name file))
        ≡ hand_text optional file (look_in folder (file_name file))
    found_same optional file is = ap (hand_text optional file) (look_same folder (file_name file) is)

    input_same : (made : List MadeFile) (file : FileId)
        → input_text (hand_of folder) made file ≡ input_text folder made file
    unfolding is_hand
    input_same made file.Stop = found_same false file.Stop refl
    input_same made file.Edge = found_same false file.Edge refl
    input_same made file.LoadGiven = found_same false file.LoadGiven refl
    input_same made file.Od = found_same false file.Od refl
    input_same made file.Pool = found_same false file.Pool refl
    input_same made file.PinnedConcept = found_same false file.PinnedConcept refl
    input_same made file.PinnedTimes = found_same false file.PinnedTimes refl
    input_same made file.PinnedSchedule = found_same false file.PinnedSchedule refl
    input_same made file.PinnedTree = found_same true file.PinnedTree refl
    input_same made file.PinnedPotential = found_same true file.PinnedPotential refl
    input_same made file.EventDelays = found_same true file.EventDelays refl
    input_same made file.ActivityDelays = found_same true file.ActivityDelays refl
    input_same made _ = refl

    texts_same : (values : List ℤ) (made : List MadeFile) (inputs : List FileId)
        → texts_of values (hand_of folder) made inputs ≡ texts_of values folder made inputs
    texts_same values made [] = refl
    texts_same values made (file ∷ inputs) =
        grind (arith, input_same, texts_same values made inputs)

    module _ (solve : BundleParts → Result Made Refusal) where
      visit_same : (values : List ℤ) (made : List MadeFile) (stage : Stage)
          → visit_of solve values (hand_of folder) made stage ≡ visit_of solve values folder made stage
      unfolding visit_of
      visit_same values made stage =
          ap (λ texts. tried solve values folder (bundle_told values stage texts))
          (texts_same values made (stage_inputs stage))

      chain_same : (values : List ℤ) (made : List MadeFile) (stages : List Stage)
          → chain_from solve values (hand_of folder) made stages ≡ chain_from solve values folder made stages
      chain_same values made [] = refl
      chain_same values made (stage ∷ stages) =
          ap (λ visit. go_on visit
          (λ visit. chain_from solve values (hand_of folder) (made ++ visit.made.files) stages))
          (visit_same values made stage)
          ∙ ap (go_on (visit_of solve values folder made stage))
          (λ i visit. chain_same values (made ++ visit.made.files) stages i)

    under_same : (solve : BundleParts → Result Made Refusal) (settings : Result (List ℤ) ConfigFault)
        → chain_under S solve settings (hand_of folder) ≡ chain_under S solve settings folder
    under_same solve (Err reason) = refl
    under_same solve (Ok values) = chain_same solve values [] (to_run values (staged S values))

    -- the chain over a folder is that over its hand files, over what is kept
    pub over_alone : (keep : Folder) → trace_over S keep (hand_of folder) ≡ trace_over S keep folder
    unfolding trace_over
    over_alone keep = grind (arith, settings_same, under_same)
