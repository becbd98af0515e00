-- Which files the stage of loads makes.
use Rattle.plan_num.proofs.Common.{◌≡◌, Ok, ap, lit<}
use Rattle.giv_files.specs.declared.made.Made.{Made}
use Rattle.giv_files.proofs.Common.{MakesAs, ids_of, BundleParts, made_unless}
use Rattle.giv_files.specs.declared.stage.Stage.TheVariants as stage
use Rattle.demand_load.specs.LoadStage.{load_stage}

-- they are those that the stage is to make
pub load_stage_makes : (bundle : BundleParts) (made : Made) → load_stage bundle ≡ Ok made → MakesAs stage.Load (ids_of made.files)
unfolding load_stage
load_stage_makes bundle made is = (0, lit< tt, ap (λ (made : Made). ids_of made.files) (made_unless _ _ made is))
