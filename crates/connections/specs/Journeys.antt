-- Journeys from one stop to another, and the events that can be reached.
use Rattle.std.specs.Prelude.{ℕ, ℤ, pos, ◌≡◌, ◌&&◌, ◌==◌, int_le, not, Bool, true, false, List, drop, zip, slice_get}
use Rattle.std.specs.Prelude.{Option, Some, None}
use Rattle.std.specs.List.{last_or, list_all, list_any}
use Rattle.std.specs.Option.{option_map_or}
use Rattle.std.specs.Ordering.{int_eq}
use Rattle.connections.specs.Kinds.{is_arrival}
use Rattle.connections.specs.declared.connection.Connection.{Connection}
use Rattle.connections.specs.declared.timed_event.TimedEvent.{TimedEvent}
use Rattle.connections.specs.Nets.{JourneyParts}

-- an event is a start: a departure at a stop, at a time or later
abbrev pub starts : ℤ → ℤ → TimedEvent → Bool
starts from start event =
    not (is_arrival event.kind) && int_eq from (pos event.stop) && int_le start (pos event.time)

-- an event is an arrival at a stop
abbrev pub arrives_at : ℤ → TimedEvent → Bool
arrives_at to event = is_arrival event.kind && int_eq to (pos event.stop)

-- the event at an index is there and passes a test
abbrev pub passes_at : (TimedEvent → Bool) → JourneyParts → ℕ → Bool
passes_at test net event = option_map_or test (slice_get net.events event) false

-- a connection leads from one event to another
abbrev pub leads : ℕ → ℕ → Connection → Bool
leads event next connection = (connection.from == event) && (connection.to == next)

-- each item of a list but the last one, with the next one
abbrev pub neighbours : List ℕ → List (ℕ × ℕ)
neighbours events = zip events (drop 1 events)

-- events are a ride: a connection leads from each to the next one
abbrev pub is_ride : JourneyParts → List ℕ → Bool
is_ride net events =
    list_all (λ pair. list_any (leads pair.0 pair.1) net.connections) (neighbours events)

-- the first of some events, and the last one
abbrev pub first_of : List ℕ → Option ℕ
first_of events = slice_get events 0

abbrev pub last_of : List ℕ → Option ℕ
last_of events = last_or None events

-- the first of some events is a start; the last one is an arrival at a stop
abbrev pub begins : JourneyParts → ℤ → ℤ → List ℕ → Bool
begins net from start events =
    option_map_or (passes_at (starts from start) net) (first_of events) false

abbrev pub ends : JourneyParts → ℤ → List ℕ → Bool
ends net to events = option_map_or (passes_at (arrives_at to) net) (last_of events) false

-- events are a journey: they begin with a start, are a ride, and end with an arrival at a stop
abbrev pub is_journey : JourneyParts → ℤ → ℤ → ℤ → List ℕ → Bool
is_journey net from to start events =
    begins net from start events && is_ride net events && ends net to events

-- an event can be reached: a ride from a start ends with it
pub record IsReached (net : JourneyParts) (from start : ℤ) (event : ℕ) : Type 0 where
  pub ride : List ℕ
  pub begin : begins net from start ride ≡ true
  pub joined : is_ride net ride ≡ true
  pub end : last_of ride ≡ Some event
