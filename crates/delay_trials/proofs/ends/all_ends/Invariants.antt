-- The ends of the changes so far are there.
use Rattle.delay_trials.proofs.EndsOfChanges.{EndsSoFar}
use Rattle.delay_trials.proofs.ends.all_ends.Given as goal

abbrev pub invariant-loop-index : goal.invariant-loop-index
invariant-loop-index l = EndsSoFar l.changes l.index l.ends.items
