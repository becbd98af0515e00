-- The words so far are 0.
use Rattle.std.proofs.Common.{◌≡◌, All, length}
use Rattle.bit_rows.proofs.rows.BitRows.none.Given as goal

abbrev pub invariant-loop-place : goal.invariant-loop-place
invariant-loop-place l = record {
  each : length l.words.items ≡ l._place;
  zeros : All (λ word. word ≡ 0) l.words.items;
}
