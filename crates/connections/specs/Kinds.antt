-- Kinds of events.
use Rattle.std.specs.Prelude.{Bool, true, false}
use Rattle.connections.specs.declared.event_kind.EventKind.{EventKind}
use Rattle.connections.specs.declared.event_kind.EventKind.TheVariants as event

-- an event is an arrival
abbrev pub is_arrival : EventKind → Bool
is_arrival event.Departure = false
is_arrival event.Arrival = true
