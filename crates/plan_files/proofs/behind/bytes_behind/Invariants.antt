-- What stands behind the pieces that are left stands behind all of them.
use Rattle.plan_num.proofs.Common.{◌≡◌, ◌++◌, List, ℕ, drop, flat_map}
use Rattle.plan_files.proofs.behind.bytes_behind.Given as goal

abbrev pub invariant-loop-piece : goal.invariant-loop-piece
invariant-loop-piece l = record {
  whole : (more : List ℕ) → l.rest ≡ flat_map (λ piece. piece.now) (drop l.piece-index l.front) ++ more
      → l.fn.bytes ≡ flat_map (λ piece. piece.now) l.front ++ more;
  left : (more : List ℕ) → l.fn.bytes ≡ flat_map (λ piece. piece.now) l.front ++ more
      → l.rest ≡ flat_map (λ piece. piece.now) (drop l.piece-index l.front) ++ more;
}
