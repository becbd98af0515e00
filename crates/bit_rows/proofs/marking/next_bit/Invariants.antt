-- No bit stands before the place.
use Rattle.std.proofs.Common.{length, ◌-◌, ◌*◌, ℕ, ◌≡◌, ◌<◌, ◌≤◌, false}
use Rattle.bit_rows.specs.Bits.{marked}
use Rattle.bit_rows.proofs.marking.next_bit.Given as goal

abbrev pub invariant-loop-place : goal.invariant-loop-place
invariant-loop-place l = record {
  from : l.from ≤ l.place;
  bare : (k : ℕ) → l.from ≤ k → k < l.place → marked l.words k ≡ false;
}

abbrev pub decreases-loop-place : goal.decreases-loop-place
decreases-loop-place l = 64 * length l.words - l.place
