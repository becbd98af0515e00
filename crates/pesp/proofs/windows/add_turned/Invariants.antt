-- The words so far have what is added to them.
use Rattle.plan_num.proofs.Common.{◌≡◌, ◌*◌, ℕ, length}
use Rattle.bit_rows.specs.Bits.{marked}
use Rattle.pesp.proofs.WordTurns.{added_below}
use Rattle.pesp.proofs.windows.add_turned.Given as goal

abbrev pub invariant-loop-index : goal.invariant-loop-index
invariant-loop-index l = record {
  long : length l.all ≡ 13;
  each : (time : ℕ) → marked l.all time
      ≡ added_below (64 * l.index) l.period l.fn.all l.times l.by time;
}
