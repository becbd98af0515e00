-- The forward order as one number for each event.
use Rattle.std.specs.Prelude.{ℕ, ◌+◌, ◌*◌, if◌then◌else◌, List, [], get_or}
use Rattle.event_tables.specs.declared.expanded_event.ExpandedEvent.{ExpandedEvent}
use Rattle.event_tables.specs.Cells.{expanded_event}
use Rattle.event_tables.specs.Kinds.{is_arrival}

-- what a departure comes later than an arrival of the same time
abbrev pub departs_later : ExpandedEvent → ℕ
departs_later event = if is_arrival event.kind then 0 else 2147483648

-- where an event stands in the forward order, as one number: its time, then arrivals, then its
-- index
abbrev pub forward_rank : List ExpandedEvent → ℕ → ℕ
forward_rank events event =
    (get_or events event (expanded_event [])).time * 4294967296
    + (departs_later (get_or events event (expanded_event [])) + event)
