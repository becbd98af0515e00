-- A day as passengers use it: its events at their planned or disposed times, and the activities
-- that can be used between them.
use Rattle.std.specs.Prelude.{ℕ, pos, ◌+◌, ◌<◌, ◌≤◌, List, length, get_or, All}
use Rattle.connections.specs.declared.connection.Connection.{Connection}
use Rattle.connections.specs.declared.event.JourneyEvent.{JourneyEvent}
use Rattle.connections.specs.declared.event_kind.EventKind.TheVariants as kind
use Rattle.connections.specs.declared.timed_event.TimedEvent.{TimedEvent}
use Rattle.connections.specs.declared.checked_net.TheConstants.{LATEST}

-- the events of a day, and the activities that can be used, by id rising; events are told by their
-- indexes
pub record JourneyParts : Type 0 where
  pub events : List TimedEvent
  pub connections : List Connection

-- the event at an index, and its time
abbrev pub event_at : JourneyParts → ℕ → TimedEvent
event_at net event = get_or net.events event (record { kind = kind.Departure; stop = 0; time = 0 })

abbrev pub time_at : JourneyParts → ℕ → ℕ
time_at net event = (event_at net event).time

-- ---- what holds of a day

-- a connection joins two events, and does not go back in time
pub record IsConnection (net : JourneyParts) (connection : Connection) : Type 0 where
  pub from : connection.from < length net.events
  pub to : connection.to < length net.events
  pub in_time : time_at net connection.from ≤ time_at net connection.to

-- a day of texts without a fault: no connection goes back in time, and by some order of the events
-- each goes forward
pub record IsNet (net : JourneyParts) : Type 0 where
  pub few : length net.events ≤ 100000
  pub soon : All (λ event. event.time ≤ LATEST) net.events
  pub connections : All (IsConnection net) net.connections
  pub rank : ℕ → ℕ
  pub forward : All (λ connection. rank connection.from < rank connection.to) net.connections

-- an event as it is told
abbrev pub event_told : ℕ → TimedEvent → JourneyEvent
event_told event at = record { id = pos (event + 1); stop = pos at.stop; time = pos at.time }
