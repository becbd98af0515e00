-- Which files the stage of the statistic makes, and which it names where it refuses a row.
use Rattle.std.proofs.Common.{◌≡◌, Bool, Ok, Err, ap, lit<}
use Rattle.tables.specs.declared.file_id.FileId.{FileId}
use Rattle.tables.specs.declared.refusal.Refusal.{Refusal}
use Rattle.tables.proofs.Common.{NamesInput, AllName}
use Rattle.giv_files.specs.declared.made.Made.{Made}
use Rattle.giv_files.proofs.Common.{MakesAs, ids_of, BundleParts, refused_names, made_unless}
use Rattle.giv_files.specs.declared.stage.Stage.TheVariants as stage
use Rattle.evaluators.specs.StatisticStage.{statistic_faults, statistic_stage}

-- they are those that the stage is to make
pub statistic_stage_makes : (bundle : BundleParts) (made : Made) → statistic_stage bundle ≡ Ok made
    → MakesAs stage.Statistic (ids_of made.files)
unfolding statistic_stage
statistic_stage_makes bundle made is =
    (0, lit< tt, ap (λ (made : Made). ids_of made.files) (made_unless _ _ made is))

-- a refusal names what the faults of the inputs do
pub statistic_stage_names : (test : FileId → Bool) (bundle : BundleParts) (reason : Refusal)
    → AllName test (statistic_faults bundle) → statistic_stage bundle ≡ Err reason → NamesInput test reason
unfolding statistic_stage
statistic_stage_names test bundle reason named is =
    refused_names test _ _ reason named is
