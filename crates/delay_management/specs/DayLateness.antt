-- How late the arrivals of expanded events are.
use Rattle.std.specs.Prelude.{ℕ, ℤ, pos, ◌+ℤ◌, ◌-ℤ◌, Bool, List, filter, zip}
use Rattle.std.specs.List.{fold}
use Rattle.event_tables.specs.declared.expanded_event.ExpandedEvent.{ExpandedEvent}
use Rattle.event_tables.specs.Kinds.{is_arrival}

-- how much later than planned an event is
abbrev pub lateness : ExpandedEvent × ℕ → ℤ
lateness timed = pos timed.1 -ℤ pos timed.0.time

-- an event with its time that is an arrival
abbrev pub arrives : ExpandedEvent × ℕ → Bool
arrives timed = is_arrival timed.0.kind

-- the delay: how late all arrivals are together
abbrev pub delay_at : List ExpandedEvent → List ℕ → ℤ
delay_at events times =
    fold (λ sum timed. sum +ℤ lateness timed) (pos 0) (filter arrives (zip events times))
