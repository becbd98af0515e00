-- The places so far are those of the first events.
use Rattle.propagation.proofs.Common.{forward_rank}
use Rattle.delay_trials.specs.ChangeEnds.{AreFirst}
use Rattle.delay_trials.proofs.link_places.first_links.Given as goal

abbrev pub invariant-loop-event : goal.invariant-loop-event
invariant-loop-event l = AreFirst (λ link. link.rank) l.links (forward_rank l.events) l.event l.firsts.items
