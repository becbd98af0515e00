-- The blocks of the inputs so far, followed by those of the rest, are those of all inputs.
use Rattle.plan_num.proofs.Common.{◌≡◌, ◌++◌, drop, map, flat_map}
use Rattle.stage_keep.specs.Entries.{block_bytes, input_block}
use Rattle.stage_keep.proofs.write.push_inputs.Given as goal

abbrev pub invariant-loop-index : goal.invariant-loop-index
invariant-loop-index l =
    l.bytes.items ++ flat_map block_bytes (map input_block (drop l.index l.bundle.inputs))
    ≡ l.initial.bytes.items ++ flat_map block_bytes (map input_block l.bundle.inputs)
