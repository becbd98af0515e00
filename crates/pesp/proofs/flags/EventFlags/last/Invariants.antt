-- None of the flags from the last one on is set so far.
use Rattle.plan_num.proofs.Common.{◌≤◌, ◌+◌, ◌/◌}
use Rattle.pesp.proofs.FlagBits.{NoneFrom}
use Rattle.pesp.proofs.flags.EventFlags.last.Given as goal

abbrev pub invariant-loop-index : goal.invariant-loop-index
invariant-loop-index l = record {
  few : l.index ≤ (l.end + 63) / 64;
  none : NoneFrom l.self l.end l.index;
}

abbrev pub decreases-loop-index : goal.decreases-loop-index
decreases-loop-index l = l.index
