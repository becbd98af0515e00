use Rattle.std.proofs.lemmas.List.Sorted.{IsNonDecreasingBy-from_sort}
use Rattle.propagation.specs.DayEvents.{forward_rank}
use Rattle.propagation.proofs.Places.{told_more}
use Rattle.propagation.proofs.links.ranks_in_order.Goals as goal

pub loop-event-preserved : goal.loop-event-preserved
loop-event-preserved c =
    told_more (forward_rank c.args.events.now) c.loop-event.event c.loop-event.ranks.items
    c.push.new.self.items c.forward_rank.result c.in_ok-push.ensures.items c.loop-event.invariant
    c.forward_rank.ensures

pub returns-clause-in_order : goal.returns-clause-in_order
returns-clause-in_order c =
    IsNonDecreasingBy-from_sort (λ rank. rank) c.sort_unstable.new.self.items c.sort_unstable.ensures.sorted
