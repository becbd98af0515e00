use Rattle.plan_num.proofs.Common.{◌≡◌, ◌++◌, map, take}
use Rattle.plan_files.specs.declared.write.Write.TheVariants.{Removal}
use Rattle.tables.proofs.Common.{file_name}
use Rattle.stage_chain.specs.Runs.{names_besides}
use Rattle.stage_chain.proofs.writes.add_removals.Given as goal

-- a removal of each of the files so far that was not made
abbrev pub invariant-loop-file : goal.invariant-loop-file
invariant-loop-file l =
    l.writes.items
    ≡ l.initial.writes.items ++ map Removal (names_besides l.made (map file_name (take l.file-index l.file-items)))
