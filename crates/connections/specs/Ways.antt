-- Inner words: how events are reached, and one pass along links.
use Rattle.std.specs.Prelude.{ℕ, ℤ, ◌≡◌, nat_le, Bool, true, false, if◌then◌else◌, List, length, get_or, slice_get}
use Rattle.std.specs.Prelude.{slice_set, Some}
use Rattle.std.specs.List.{fold}
use Rattle.connections.specs.declared.connection.Connection.{Connection}
use Rattle.connections.specs.declared.links.Link.{Link}
use Rattle.connections.specs.declared.timed_event.TimedEvent.{TimedEvent}
use Rattle.connections.specs.declared.way.Way.{Way}
use Rattle.connections.specs.declared.way.Way.TheVariants as way
use Rattle.connections.specs.Nets.{JourneyParts}
use Rattle.connections.specs.Journeys.{IsReached, passes_at, starts}

-- the way into an event before any link is looked at
abbrev pub first_way : ℤ → ℤ → TimedEvent → Way
first_way from start event = if starts from start event then way.Start else way.Unreached

-- an event can be reached
abbrev pub is_reached : Way → Bool
is_reached way.Unreached = false
is_reached way.Start = true
is_reached (way.By connection) = true

-- the lesser of two connections
abbrev pub lesser : ℕ → ℕ → ℕ
lesser connection other = if nat_le connection other then connection else other

-- the way into an event where a connection leads to it from an event that can be reached
abbrev pub or_by : Way → ℕ → Way
or_by way.Unreached connection = way.By connection
or_by way.Start connection = way.Start
or_by (way.By other) connection = way.By (lesser other connection)

-- the way into the event at an index
abbrev pub way_at : List Way → ℕ → Way
way_at ways event = get_or ways event way.Unreached

-- the ways after one link
abbrev pub go_by : List Way → Link → List Way
go_by ways link =
    if is_reached (way_at ways link.from)
    then slice_set ways link.to (or_by (way_at ways link.to) link.index) else ways

-- the ways after links, one after the other
abbrev pub ways_along : List Link → List Way → List Way
ways_along links ways = fold go_by ways links

-- an event is a start, or is reached by a connection no later than this one
abbrev pub is_by : ℕ → Way → Bool
is_by connection way.Unreached = false
is_by connection way.Start = true
is_by connection (way.By other) = nat_le other connection

-- a connection leads to an event, which is no start, from one that can be reached
pub record IsBy (net : JourneyParts) (from start : ℤ) (event connection : ℕ) : Type 0 where
  pub tail : ℕ
  pub is : slice_get net.connections connection ≡ Some (record { from = tail; to = event })
  pub reached : IsReached net from start tail
  pub no_start : passes_at (starts from start) net event ≡ false

-- a way leads into an event
abbrev pub IsWay : JourneyParts → ℤ → ℤ → ℕ → Way → Type 0
IsWay net from start event way.Unreached = passes_at (starts from start) net event ≡ false
IsWay net from start event way.Start = passes_at (starts from start) net event ≡ true
IsWay net from start event (way.By connection) = IsBy net from start event connection

-- ways lead into all events that can be reached, each by the first connection
pub record AreWays (net : JourneyParts) (from start : ℤ) (ways : List Way) : Type 0 where
  pub each : length ways ≡ length net.events
  pub lead : (event : ℕ) → IsWay net from start event (way_at ways event)
  pub closed : (place : ℕ) (connection : Connection)
      → slice_get net.connections place ≡ Some connection
      → is_reached (way_at ways connection.from) ≡ true
      → is_by place (way_at ways connection.to) ≡ true
