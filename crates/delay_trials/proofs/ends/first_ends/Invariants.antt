-- The places so far are those of the first events.
use Rattle.delay_trials.specs.ChangeEnds.{AreFirst}
use Rattle.delay_trials.proofs.ends.first_ends.Given as goal

abbrev pub invariant-loop-event : goal.invariant-loop-event
invariant-loop-event l = AreFirst (λ end. end.event) l.ends (λ event. event) l.event l.firsts.items
