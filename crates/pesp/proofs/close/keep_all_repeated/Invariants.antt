-- What is left has all times that come again after as many minutes as were looked at.
use Rattle.plan_num.proofs.Common.{◌≡◌, ◌<◌, ℕ, Bool, false}
use Rattle.pesp.specs.Cycles.{Closes, Repeats}
use Rattle.pesp.specs.Marks.{marks_left}
use Rattle.pesp.proofs.close.keep_all_repeated.Given as goal

abbrev pub invariant-turns : goal.invariant-turns
invariant-turns l = record {
  closes : Closes l.fn.sets l.sets l.event l.minutes;
  again : (left : ℕ → Bool) → Repeats l.fn.sets.sets.columns left l.minutes
      → Repeats l.fn.sets.sets.columns left l.by;
  few : l.by < l.fn.sets.sets.columns;
  same : l.changes ≡ false → l.sets ≡ l.fn.sets;
}

abbrev pub decreases-turns : goal.decreases-turns
decreases-turns l = marks_left l.sets.sets
