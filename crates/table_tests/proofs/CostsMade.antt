-- The one list of files that the stage of costs makes.
use Rattle.std.proofs.Common.{◌≡◌, List, [], ◌∷◌, sym, subst, refl, arith}
use Rattle.tables.specs.declared.file_id.FileId.{FileId}
use Rattle.tables.specs.declared.file_id.FileId.TheVariants as file
use Rattle.giv_files.specs.declared.stage.Stage.{Stage}
use Rattle.giv_files.proofs.Common.{MakesAs}
use Rattle.giv_files.specs.declared.stage.Stage.TheVariants as stage

-- it makes the file of the costs
pub costs_are_made : (at : Stage) (files : List FileId) → at ≡ stage.Cost → files ≡ file.PoolCost ∷ []
    → MakesAs at files
costs_are_made at files is made =
    subst (λ s. MakesAs s files) (sym is)
    (subst (λ l. MakesAs stage.Cost l) (sym made) (0, omega arith, refl))
