-- The heads so far.
use Rattle.plan_num.proofs.Common.{◌≡◌, map, take}
use Rattle.stage_keep.specs.Entries.{made_head}
use Rattle.stage_keep.proofs.heads.last_heads.Given as goal

abbrev pub invariant-loop-file : goal.invariant-loop-file
invariant-loop-file l = l.heads.items ≡ map made_head (take l.file-index l.files)
