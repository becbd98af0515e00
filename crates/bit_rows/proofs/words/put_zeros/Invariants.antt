-- The words so far are 0.
use Rattle.std.proofs.Common.{◌≡◌, ◌<◌, ℕ, get_or, length}
use Rattle.bit_rows.proofs.words.put_zeros.Given as goal

abbrev pub invariant-loop-index : goal.invariant-loop-index
invariant-loop-index l = record {
  each : length l.words ≡ length l.fn.words;
  zeros : (place : ℕ) → place < l.index → get_or l.words place 0 ≡ 0;
}
