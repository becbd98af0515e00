-- The ranks so far are those of the first events.
use Rattle.plan_num.proofs.Common.{◌≡◌, map, range_with_len}
use Rattle.event_tables.proofs.Common.{forward_rank}
use Rattle.journeys.proofs.day.ranks_of.Given as goal

abbrev pub invariant-loop-event : goal.invariant-loop-event
invariant-loop-event l =
    l.ranks.items ≡ map (forward_rank l.events) (range_with_len 0 l.event)
