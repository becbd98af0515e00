-- Which files the stage of the roll-out makes, and which it names where it refuses a row.
use Rattle.plan_num.proofs.Common.{arith, ◌≡◌, ℕ, Bool, true, List, [], ◌∷◌, Err, Ok, ap, lit<}
use Rattle.tables.specs.declared.column.ColumnKind.{ColumnKind}
use Rattle.tables.specs.declared.file_id.FileId.{FileId}
use Rattle.tables.specs.declared.refusal.Refusal.{Refusal}
use Rattle.tables.specs.declared.row_why.RowWhy.{RowWhy}
use Rattle.tables.proofs.Common.{NamesInput, AllName}
use Rattle.tables.specs.declared.counted.Counted.TheVariants as counted
use Rattle.giv_files.specs.declared.made.Made.{Made}
use Rattle.giv_files.proofs.Common.{MakesAs, ids_of, BundleParts, made_unless}
use Rattle.tables.specs.declared.refusal.Refusal.TheVariants as refusal
use Rattle.giv_files.specs.declared.stage.Stage.TheVariants as stage
use Rattle.roll_out.specs.RolloutStage.{faults_at, rollout_faults, rollout_stage}

-- the files that are made are those that the stage is to make
pub rollout_stage_makes : (bundle : BundleParts) (made : Made) → rollout_stage bundle ≡ Ok made
    → MakesAs stage.Rollout (ids_of made.files)
unfolding rollout_stage
rollout_stage_makes bundle made is =
    (0, lit< tt, ap (λ (made : Made). ids_of made.files) (made_unless _ _ made is))

-- rules of runs name the file of the rows
pub rows_name : (test : FileId → Bool) (file : FileId) → test file ≡ true
    → (columns : List ColumnKind) (text : List ℕ)
    (why : RowWhy) (ids : List ℕ) → AllName test (faults_at file columns text why ids)
rows_name test file named columns text why [] = tt
rows_name test file named columns text why (id ∷ ids) =
    (named, rows_name test file named columns text why ids)

-- a refusal names what the faults of the inputs do
pub rollout_stage_names : (test : FileId → Bool) (bundle : BundleParts) (reason : Refusal)
    → AllName test (rollout_faults bundle)
    → rollout_stage bundle ≡ Err reason → NamesInput test reason
unfolding rollout_stage
rollout_stage_names test bundle reason named is = grind arith
