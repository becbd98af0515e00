-- None so far.
use Rattle.plan_num.proofs.Common.{◌*◌}
use Rattle.pesp.proofs.MarkBits.{NoneLeft}
use Rattle.pesp.proofs.marks.TimeMarks.next_left.Given as goal

abbrev pub invariant-loop-index : goal.invariant-loop-index
invariant-loop-index l = NoneLeft l.self l.event l.from (64 * l.index)
