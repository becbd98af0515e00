use Rattle.plan_num.proofs.Common.{◌≡◌, map, take}
use Rattle.plan_files.specs.declared.write.Write.TheVariants.{Removal}
use Rattle.stage_chain.specs.Hand.{names_made_by}
use Rattle.stage_chain.specs.Runs.{names_besides}
use Rattle.stage_chain.proofs.writes.removals.Given as goal

-- a removal of each of the files of the stages so far that was not made
abbrev pub invariant-loop-place : goal.invariant-loop-place
invariant-loop-place g l =
    l.writes.items ≡ map Removal (names_besides l.made (names_made_by (take l.place-index l.place-items)))
