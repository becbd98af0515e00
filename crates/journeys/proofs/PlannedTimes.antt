-- Planned times are not too great.
use Rattle.plan_num.proofs.Common.{◌≤◌, ◌≤ℤ◌, pos, List, map, All, arith, ints, All-map, All-weaker}
use Rattle.tables.proofs.Common.{events_x_columns, InColumns}
use Rattle.event_tables.specs.declared.expanded_event.ExpandedEvent.{ExpandedEvent}
use Rattle.event_tables.proofs.Common.{expanded_event_cells, AreExpandedEvents}
use Rattle.connections.specs.declared.checked_net.TheConstants.{LATEST}

high_of : (event : ExpandedEvent) → InColumns events_x_columns (expanded_event_cells event)
    → event.time ≤ LATEST
high_of event fits =
    let high : pos event.time ≤ℤ pos 1000000000 = fits.1.1.1.0.1 in omega (arith, ints, high)

pub planned_soon : (events : List ExpandedEvent) → AreExpandedEvents events
    → All (λ time. time ≤ LATEST) (map (λ event. event.time) events)
planned_soon events are =
    All-map (λ time. time ≤ LATEST) (λ (event : ExpandedEvent). event.time) events
    (All-weaker (λ event. InColumns events_x_columns (expanded_event_cells event))
    (λ (event : ExpandedEvent). event.time ≤ LATEST) high_of events are.fit)
