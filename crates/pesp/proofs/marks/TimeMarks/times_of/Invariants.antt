-- The words so far.
use Rattle.plan_num.proofs.Common.{◌≡◌, ◌*◌, ◌&&◌, ℕ, length, nat_lt}
use Rattle.bit_rows.specs.Bits.{marked}
use Rattle.bit_rows.proofs.RowBits.{bit_there}
use Rattle.pesp.proofs.marks.TimeMarks.times_of.Given as goal

abbrev pub invariant-loop-index : goal.invariant-loop-index
invariant-loop-index l = record {
  long : length l.times ≡ 13;
  each : (time : ℕ) → marked l.times time ≡ (nat_lt time (64 * l.index)
      && bit_there l.self l.event time);
}
