-- The blocks of the files so far, followed by those of the rest, are those of all files.
use Rattle.plan_num.proofs.Common.{◌≡◌, ◌++◌, drop, map, flat_map}
use Rattle.stage_keep.specs.Entries.{block_bytes, made_block}
use Rattle.stage_keep.proofs.write.push_made.Given as goal

abbrev pub invariant-loop-index : goal.invariant-loop-index
invariant-loop-index l =
    l.bytes.items ++ flat_map block_bytes (map made_block (drop l.index l.files))
    ≡ l.initial.bytes.items ++ flat_map block_bytes (map made_block l.files)
