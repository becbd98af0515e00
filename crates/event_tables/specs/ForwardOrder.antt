-- The order in which a day goes forward.
use Rattle.std.specs.Prelude.{ℕ, ◌==◌, Bool, false, if◌then◌else◌, List, [], ◌∷◌, find, Option, Some}
use Rattle.std.specs.Cmp.Lexicographic.{slice_cmp}
use Rattle.std.specs.Ordering.{nat_cmp, is_lt}
use Rattle.event_tables.specs.declared.expanded_event.ExpandedEvent.{ExpandedEvent}
use Rattle.event_tables.specs.Kinds.{is_arrival}

-- where an event stands in the forward order: by its planned time, arrivals first, then by its id
abbrev pub forward_key : ExpandedEvent → List ℕ
forward_key event = event.time ∷ (if is_arrival event.kind then 0 else 1) ∷ event.id ∷ []

-- an event stands before another in the forward order
abbrev pub stands_before : ExpandedEvent → ExpandedEvent → Bool
stands_before event other = is_lt (slice_cmp nat_cmp (forward_key event) (forward_key other))

-- the event of an id
abbrev pub event_with : List ExpandedEvent → ℕ → Option ExpandedEvent
event_with events id = find (λ event. id == event.id) events

-- two events pass a test, where they are there
abbrev pub both_pass : (ExpandedEvent → ExpandedEvent → Bool) → Option ExpandedEvent
    → Option ExpandedEvent → Bool
both_pass test (Some event) (Some other) = test event other
both_pass test _ _ = false

-- the event of an id stands before that of another
abbrev pub goes_forward : List ExpandedEvent → ℕ → ℕ → Bool
goes_forward events from to = both_pass stands_before (event_with events from) (event_with events to)
