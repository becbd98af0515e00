-- Events that stand before others in the forward order.
use Rattle.plan_num.proofs.Common.{◌≡◌, ℕ, ◌<◌, ◌≤◌, cond, arith, true, false, List, Some}
use Rattle.event_tables.specs.declared.event_kind.EventKind.{EventKind}
use Rattle.event_tables.specs.declared.expanded_event.ExpandedEvent.{ExpandedEvent}
use Rattle.event_tables.proofs.Common.{event_with, goes_forward, stands_before, is_arrival}
use Rattle.event_tables.specs.declared.event_kind.EventKind.TheVariants as kinds

abbrev rank : EventKind → ℕ
rank kind = cond (is_arrival kind) 0 1

-- a later event
pub later_stands : (event other : ExpandedEvent) → event.time < other.time
    → stands_before event other ≡ true
later_stands event other h = grind arith

-- an event of a greater id that is not earlier, behind an arrival
pub waits_stand : (event other : ExpandedEvent) → is_arrival event.kind ≡ true → event.time
    ≤ other.time
    → event.id < other.id → stands_before event other ≡ true
waits_stand event other arrives soon next = grind arith

-- a departure that is not earlier, behind an arrival
pub changes_stand : (event other : ExpandedEvent) → is_arrival event.kind ≡ true
    → is_arrival other.kind ≡ false
    → event.time ≤ other.time → stands_before event other ≡ true
changes_stand event other arrives departs soon = grind arith

-- so an activity between them goes forward
pub forward_between : (events : List ExpandedEvent) (from to : ℕ) (event other : ExpandedEvent)
    → event_with events from ≡ Some event → event_with events to ≡ Some other
    → stands_before event other ≡ true
    → goes_forward events from to ≡ true
forward_between events from to event other first second stands = grind arith
