-- What holds of each list of files that a stage may make.
use Rattle.plan_num.proofs.Common.{◌≡◌, Bool, true, List, [], ◌∷◌, map, filter, refl, arith}
use Rattle.plan_num.proofs.Common.{list_all, Contains}
use Rattle.tables.specs.declared.file_id.FileId.{FileId}
use Rattle.tables.proofs.Common.{file_name}
use Rattle.giv_files.specs.declared.stage.Stage.{Stage}
use Rattle.giv_files.proofs.Common.{MakesAs, stage_makes}
use Rattle.giv_files.specs.declared.stage.Stage.TheVariants as stage
use Rattle.stage_chain.specs.Hand.{is_among}
use Rattle.stage_chain.specs.StageLists.{differing}
use Rattle.stage_chain.specs.StageLists.{always_made}

-- files that a stage may make: they are among those that it makes, in their order; their names
-- differ; some of them are always there
pub record IsMadeList (stage : Stage) (files : List FileId) : Type 0 where
  pub within : (p : FileId → Bool) → list_all p (stage_makes stage) ≡ true → list_all p files ≡ true
  pub always : (p : FileId → Bool) → list_all p files ≡ true → list_all p (always_made stage) ≡ true
  pub differ : differing (map file_name files) ≡ true
  pub kept : filter (λ file. is_among (file_name file) (map file_name files)) (stage_makes stage) ≡ files

pub only_one : (list files : List FileId) → Contains (list ∷ []) files → list ≡ files
only_one list files at = grind arith

-- the one list of a stage that has one
the_list : (stage : Stage) (files : List FileId) → Contains (stage_makes stage ∷ []) files
    → ((p : FileId → Bool) → list_all p (stage_makes stage) ≡ true → list_all p (always_made stage) ≡ true)
    → differing (map file_name (stage_makes stage)) ≡ true
    → filter (λ file. is_among (file_name file) (map file_name (stage_makes stage))) (stage_makes stage)
    ≡ stage_makes stage
    → IsMadeList stage files
the_list stage files at always differ kept = grind arith

pub made_list : (stage : Stage) (files : List FileId) → MakesAs stage files → IsMadeList stage files
made_list stage.Concept files at = grind arith
made_list stage.PinnedConcept files at = grind arith
made_list stage.PinnedVehicles files at = grind arith
made_list at files makes = the_list at files makes (λ p h. h) refl refl
