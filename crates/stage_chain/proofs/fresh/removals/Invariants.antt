use Rattle.plan_num.proofs.Common.{◌≡◌, map, take}
use Rattle.plan_files.specs.declared.write.Write.TheVariants.{Removal}
use Rattle.stage_keep.specs.Entries.{keep_name}
use Rattle.stage_chain.proofs.fresh.removals.Given as goal

-- a removal for each of the stages so far
abbrev pub invariant-loop-stage : goal.invariant-loop-stage
invariant-loop-stage l =
    l.writes.items ≡ map Removal (map keep_name (take l.stage-index l.stage-items))
