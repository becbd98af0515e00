-- What the stages of a chain owe to it.
use Rattle.std.specs.Prelude.{ℕ, ℤ, ◌≡◌, false, List, [], ◌∷◌, map, None, Ok, Err}
use Rattle.plan_files.specs.Folder.{Folder}
use Rattle.tables.specs.declared.file_id.FileId.{FileId}
use Rattle.giv_files.specs.declared.made.Made.{Made}
use Rattle.giv_files.specs.declared.made.MadeFile.{MadeFile}
use Rattle.tables.specs.declared.refusal.Refusal.{Refusal}
use Rattle.giv_files.specs.declared.stage.Stage.{Stage}
use Rattle.giv_files.specs.MadeLists.{MakesAs, ids_of}
use Rattle.tables.specs.NamedFiles.{NamesOnly}
use Rattle.giv_files.specs.Settings.{BundleParts, Fits}
use Rattle.giv_files.specs.Stages.{stage_inputs}
use Rattle.stage_chain.specs.Chain.{bundle_for, chosen}
use Rattle.stage_chain.specs.Checks.{lacks_file, standing}
use Rattle.stage_chain.specs.Hand.{is_hand_file}
use Rattle.stage_chain.specs.StageLists.{CanRunIn, IsStageList, before_stage}
use Rattle.stage_chain.specs.StageParts.{StageParts, staged}

-- what a stage is given over one look of texts
abbrev pub bundle_over : List ℤ → (FileId → List ℕ) → Stage → BundleParts
bundle_over values look stage =
    bundle_for values stage (map (λ file. look (chosen values file)) (stage_inputs stage))

-- files with their texts there
abbrev pub files_over : (FileId → List ℕ) → List FileId → List MadeFile
files_over look ids = map (λ file. record { file = file; text = look file }) ids

module _ (S : StageParts) where
  -- files that a stage may make have texts in such a look that are right over it
  pub record IsRightOver (values : List ℤ) (look : FileId → List ℕ) (stage : Stage) : Type 0 where
    pub ids : List FileId
    pub makes : MakesAs stage ids
    pub right : S.IsRight stage (bundle_over values look stage) (files_over look ids)

  abbrev pub AreRightOver : List ℤ → (FileId → List ℕ) → List Stage → Type 0
  AreRightOver values look [] = Unit {0}
  AreRightOver values look (stage ∷ stages) =
      IsRightOver values look stage × AreRightOver values look stages

  -- The stages of the places, and those that run there under any settings, can run one after the
  -- other. Each one makes files that it may make, and they are right. Where those before it are right
  -- over one look of texts, it refuses over it no row of a file but those that people write. Where no
  -- file of a place lacks that has to be there, and nothing is found of those that are, they are some
  -- that the stage there may make. Over what the place is given, nothing is found of what the stage
  -- there makes.
  pub record AreStages : Type 0 where
    pub list : IsStageList S.places
    pub lists : (values : List ℤ) → IsStageList (staged S values)
    pub placed : (values : List ℤ) (place : Stage) → CanRunIn place (S.placed values place)
    pub makes : (bundle : BundleParts) (made : Made) → S.run bundle ≡ Ok made
        → MakesAs bundle.stage (ids_of made.files)
    pub right : (bundle : BundleParts) (made : Made) → Fits bundle → S.run bundle ≡ Ok made
        → S.IsRight bundle.stage bundle made.files
    pub refuses : (values : List ℤ) (look : FileId → List ℕ) (stage : Stage) (reason : Refusal)
        → AreRightOver values look (before_stage (staged S values) stage)
        → S.run (bundle_over values look stage) ≡ Err reason → NamesOnly is_hand_file reason
    pub stand : (folder : Folder) (values : List ℤ) (bundle : BundleParts)
        → lacks_file folder bundle.stage ≡ false
        → S.verdict values bundle (standing folder bundle.stage) ≡ None
        → MakesAs (S.placed values bundle.stage) (ids_of (standing folder bundle.stage))
    pub pass : (folder : Folder) (values : List ℤ) (look : FileId → List ℕ) (place : Stage) (made : Made)
        → S.run (bundle_over values look (S.placed values place)) ≡ Ok made
        → S.IsRight (S.placed values place) (bundle_over values look (S.placed values place)) made.files
        → standing folder place ≡ made.files
        → (lacks_file folder place ≡ false)
        × (S.verdict values (bundle_over values look place) (standing folder place) ≡ None)
