-- No event is noted before the first one, and then those so far.
use Rattle.plan_num.proofs.Common.{◌≡◌, [], All, length, map, take}
use Rattle.event_activity.proofs.Candidates.{NotedTo}
use Rattle.event_activity.proofs.next_events.NextEvents.new.Given as goal

abbrev pub invariant-loop-row : goal.invariant-loop-row
invariant-loop-row l =
    record {
      size : length l.rows.items ≡ l._row;
      empty : All (λ row. row ≡ []) (map (λ row. row.items) l.rows.items);
    }

abbrev pub invariant-loop-event : goal.invariant-loop-event
invariant-loop-event l =
    NotedTo l.joining l.count (take l.event-index l.events)
    (map (λ row. row.items) l.rows.items)
