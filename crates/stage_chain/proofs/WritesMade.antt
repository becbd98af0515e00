-- The puts of what was made and the removals of all else are the writes of a run.
use Rattle.plan_num.proofs.Common.{◌≡◌, List, ◌++◌, map, arith}
use Rattle.plan_files.specs.declared.write.Write.{Write}
use Rattle.plan_files.specs.declared.write.Write.TheVariants.{Removal}
use Rattle.giv_files.specs.declared.made.MadeFile.{MadeFile}
use Rattle.stage_chain.specs.Hand.{names_made_by}
use Rattle.stage_chain.specs.Runs.{names_besides, put_of, writes_for}
use Rattle.stage_chain.specs.StageParts.{StageParts}
use Rattle.stage_chain.specs.Laws.{AreStages}

module _ (S : StageParts) (laws : AreStages S) where
  pub joined_writes : (made some : List MadeFile) (puts removed writes : List Write) → some ≡ made
      → puts ≡ map put_of made → removed ≡ map Removal (names_besides some (names_made_by S.places))
      → writes ≡ puts ++ removed → writes ≡ writes_for S made
  unfolding writes_for
  joined_writes made some puts removed writes same are gone all = grind arith
