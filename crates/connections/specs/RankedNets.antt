-- Events with ranks, and connections that go forward by them.
use Rattle.std.specs.Prelude.{ℕ, ◌≡◌, ◌<◌, ◌≤◌, ◌&&◌, nat_eq, nat_le, nat_lt, Bool, List, length, get_or, All}
use Rattle.std.specs.List.{list_all}
use Rattle.connections.specs.declared.connection.Connection.{Connection}
use Rattle.connections.specs.declared.timed_event.TimedEvent.{TimedEvent}
use Rattle.connections.specs.Nets.{IsConnection, JourneyParts, time_at}
use Rattle.connections.specs.declared.checked_net.TheConstants.{LATEST}

-- the day of events and connections
abbrev pub parts_of : List TimedEvent → List Connection → JourneyParts
parts_of events connections = record { events = events; connections = connections }

-- the rank of an event
abbrev pub rank_at : List ℕ → ℕ → ℕ
rank_at ranks event = get_or ranks event 0

-- there are not too many events and connections, and no time is too late; no connection goes back
-- in time, and by the ranks of the events each goes forward
pub record IsRanked (net : JourneyParts) (ranks : List ℕ) : Type 0 where
  pub few : length net.events ≤ 100000
  pub few_connections : length net.connections ≤ 500000
  pub soon : All (λ event. event.time ≤ LATEST) net.events
  pub connections : All (IsConnection net) net.connections
  pub each : length ranks ≡ length net.events
  pub forward : All
      (λ connection. rank_at ranks connection.from < rank_at ranks connection.to) net.connections

-- the same as a test: a time is not too late
abbrev pub is_soon : TimedEvent → Bool
is_soon event = nat_le event.time LATEST

-- a connection joins two of so many events
abbrev pub joins : ℕ → Connection → Bool
joins count connection = nat_lt connection.from count && nat_lt connection.to count

-- it does not go back in time, and goes forward
abbrev pub is_later : JourneyParts → List ℕ → Connection → Bool
is_later net ranks connection =
    nat_le (time_at net connection.from) (time_at net connection.to)
    && nat_lt (rank_at ranks connection.from) (rank_at ranks connection.to)

-- both
abbrev pub is_onward : JourneyParts → List ℕ → Connection → Bool
is_onward net ranks connection =
    joins (length net.events) connection && is_later net ranks connection

-- there are not too many events and connections, and a rank for each event
abbrev pub are_few : JourneyParts → List ℕ → Bool
are_few net ranks = nat_le (length net.events) 100000
    && (nat_le (length net.connections) 500000 && nat_eq (length ranks) (length net.events))

abbrev pub is_ranked : JourneyParts → List ℕ → Bool
is_ranked net ranks = are_few net ranks
    && (list_all is_soon net.events && list_all (is_onward net ranks) net.connections)
