-- The pieces so far, followed by the blocks of the inputs that are left, are the front.
use Rattle.plan_num.proofs.Common.{◌≡◌, ◌++◌, drop, flat_map, map}
use Rattle.stage_keep.specs.Entries.{block_bytes, front_lines, given_front, input_block}
use Rattle.stage_keep.proofs.front.front_pieces.Given as goal

abbrev pub invariant-loop-index : goal.invariant-loop-index
invariant-loop-index l = record {
  lines : l.lines ≡ front_lines l.given;
  left : flat_map (λ piece. piece.now) l.pieces.items
      ++ flat_map block_bytes (map input_block (drop l.index l.given.inputs))
      ≡ given_front l.given;
}
