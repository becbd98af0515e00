-- None of the sets so far has several times.
use Rattle.pesp.specs.Marks.{IsSettled}
use Rattle.pesp.proofs.standing.first_open.Given as goal

abbrev pub invariant-loop-event : goal.invariant-loop-event
invariant-loop-event l = IsSettled l.sets l.event
