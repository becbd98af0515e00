-- What a planning stage owes to the chain of them.
use Rattle.plan_num.proofs.Common.{◌≡◌, ℕ, ℤ, Bool, true, false, ◌⊎◌, List, [], None, Ok, Err, ⊤}
use Rattle.plan_files.proofs.Common.{Folder}
use Rattle.tables.specs.declared.file_id.FileId.{FileId}
use Rattle.giv_files.specs.declared.made.Made.{Made}
use Rattle.tables.specs.declared.refusal.Refusal.{Refusal}
use Rattle.giv_files.specs.declared.stage.Stage.{Stage}
use Rattle.giv_files.specs.declared.stage.Stage.TheVariants as stage
use Rattle.giv_files.proofs.Common.{MakesAs, ids_of, BundleParts, Fits}
use Rattle.tables.proofs.Common.{NamesInput, NamesOnly, AllName, none_names}
use Rattle.stage_chain.specs.Checks.{lacks_file, standing}
use Rattle.stage_chain.specs.Hand.{is_hand_file}
use Rattle.stage_chain.specs.Laws.{IsRightOver, bundle_over}
use Rattle.stage_chain.specs.StageLists.{before_stage}
use Rattle.stage_chain.proofs.RightOver.{is_one}
use Rattle.planning_stages.specs.Planning.{planning, stage_model}

-- any file
abbrev pub any : FileId → Bool
any file = true

-- a stage searches
abbrev pub Searches : Stage → Type 0
Searches stage.Concept = ⊤
Searches stage.Timetable = ⊤
Searches _ = ⊥

-- over one look of texts the stages in the places before one are right
abbrev pub AreRightBefore : List ℤ → (FileId → List ℕ) → Stage → Type 0
AreRightBefore values look at = (place : Stage) → is_one place (before_stage planning.places at) ≡ true
    → IsRightOver planning values look (planning.placed values place)

-- what a stage made over one look of texts, and it is right
abbrev pub IsMadeOver : List ℤ → (FileId → List ℕ) → Stage → Made → Type 0
IsMadeOver values look at made = ((stage_model at).run (bundle_over values look at) ≡ Ok made)
    × (stage_model at).IsRight (bundle_over values look at) made.files

-- A stage makes files that it may make, and they are right. Where the stages before it are right over
-- one look of texts, it refuses over it no row of a file but those that people write; where it does
-- not search, all that it refuses is a row of an input, or a limit. Where no file of its place lacks
-- that has to be there, and nothing is found of those that are, they are some that the stage there may
-- make. Nothing is found of what that one makes.
pub record StageLaws (at : Stage) : Type 0 where
  pub makes : (bundle : BundleParts) (made : Made) → (stage_model at).run bundle ≡ Ok made
      → MakesAs at (ids_of made.files)
  pub right : (bundle : BundleParts) (made : Made) → bundle.stage ≡ at → Fits bundle
      → (stage_model at).run bundle ≡ Ok made → (stage_model at).IsRight bundle made.files
  pub refuses : (values : List ℤ) (look : FileId → List ℕ) (reason : Refusal)
      → AreRightBefore values look at → (stage_model at).run (bundle_over values look at) ≡ Err reason
      → NamesOnly is_hand_file reason
  pub names : (bundle : BundleParts) (reason : Refusal) → (stage_model at).run bundle ≡ Err reason
      → Searches at ⊎ NamesInput any reason
  pub stand : (values : List ℤ) (folder : Folder) (bundle : BundleParts) → lacks_file folder at ≡ false
      → ((stage_model at).judged values).verdict bundle (standing folder at) ≡ None
      → MakesAs (planning.placed values at) (ids_of (standing folder at))
  pub unbroken : (values : List ℤ) (look : FileId → List ℕ) (made : Made)
      → IsMadeOver values look (planning.placed values at) made
      → ((stage_model at).judged values).verdict (bundle_over values look at) made.files ≡ None

-- faults that are none name nothing
pub fine : {faults : List Refusal} → faults ≡ [] → AllName is_hand_file faults
fine {faults} none = none_names is_hand_file faults none
