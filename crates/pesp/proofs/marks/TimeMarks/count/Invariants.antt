-- The count so far is that of the bits of the words so far.
use Rattle.plan_num.proofs.Common.{◌≡◌, ◌*◌, ◌≤◌}
use Rattle.bit_rows.proofs.RowBits.{bit_there}
use Rattle.pesp.specs.Revising.{count_below}
use Rattle.pesp.proofs.marks.TimeMarks.count.Given as goal

abbrev pub invariant-loop-index : goal.invariant-loop-index
invariant-loop-index l = record {
  few : l.count ≤ 64 * l.index;
  counted : l.count ≡ count_below (bit_there l.self l.event) (64 * l.index);
}
