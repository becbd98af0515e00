-- Which files the stage of line concepts makes.
use Rattle.plan_num.proofs.Common.{arith, ◌≡◌, List, [], Result, Ok, Err}
use Rattle.tables.specs.declared.file_id.FileId.{FileId}
use Rattle.tables.specs.declared.refusal.Refusal.{Refusal}
use Rattle.giv_files.specs.declared.made.Made.{Made}
use Rattle.giv_files.proofs.Common.{MakesAs, ids_of, BundleParts}
use Rattle.giv_files.specs.declared.stage.Stage.TheVariants as stage
use Rattle.line_search.specs.ConceptStage.{concept_stage}

-- the files that are made, where some are
abbrev ids_in : Result Made Refusal → List FileId
ids_in (Ok made) = ids_of made.files
ids_in (Err why) = []

-- they are those that the stage may make: without a mark there is no Tree
pub concept_stage_makes : (bundle : BundleParts) (made : Made) → concept_stage bundle ≡ Ok made
    → MakesAs stage.Concept (ids_of made.files)
unfolding concept_stage
concept_stage_makes bundle made is = grind arith
