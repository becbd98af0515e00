-- Inner words: where a journey ends, how it is built backward, and what is before its arrival.
use Rattle.std.specs.Prelude.{ℕ, ℤ, ◌≡◌, ◌<◌, ◌&&◌, if◌then◌else◌, nat_lt, Bool, true, false, List, [], ◌∷◌, length}
use Rattle.std.specs.Prelude.{filter, slice_get, All, Option, Some, None}
use Rattle.std.specs.List.{range_with_len}
use Rattle.std.specs.Option.{option_map_or}
use Rattle.connections.specs.declared.connection.Connection.{Connection}
use Rattle.connections.specs.declared.way.Way.{Way}
use Rattle.connections.specs.declared.way.Way.TheVariants as way
use Rattle.connections.specs.Earliest.{IsNoLater}
use Rattle.connections.specs.Nets.{JourneyParts, time_at}
use Rattle.connections.specs.Journeys.{arrives_at, last_of, neighbours, passes_at}
use Rattle.connections.specs.Ways.{is_reached, way_at}

-- an event is an arrival at a stop that can be reached
abbrev pub is_end : JourneyParts → List Way → ℤ → ℕ → Bool
is_end net ways to event = passes_at (arrives_at to) net event && is_reached (way_at ways event)

-- an event is before the one at an end; where there is no end, each is
abbrev pub is_before_end : JourneyParts → Option ℕ → ℕ → Bool
is_before_end net end event =
    option_map_or (λ end. nat_lt (time_at net event) (time_at net end)) end true

-- an event, where it is such an arrival before another one, or else that one
abbrev pub earlier_end : JourneyParts → List Way → ℤ → Option ℕ → ℕ → Option ℕ
earlier_end net ways to first event =
    if passes_at (arrives_at to) net event
    && (is_reached (way_at ways event) && is_before_end net first event)
    then Some event else first

-- the first such arrival below an index, or none
abbrev pub IsFirstEnd : JourneyParts → List Way → ℤ → ℕ → Option ℕ → Type 0
IsFirstEnd net ways to below None =
    (other : ℕ) → other < below → is_end net ways to other ≡ false
IsFirstEnd net ways to below (Some end) =
    (end < below) × (is_end net ways to end ≡ true)
    × ((other : ℕ) → other < below → is_end net ways to other ≡ true → IsNoLater net end other)

-- the way into an event is by a connection from another
abbrev pub IsStep : List Connection → List Way → ℕ → ℕ → Type 0
IsStep connections ways event next = (place : ℕ) × (way_at ways next ≡ way.By place)
    × (slice_get connections place ≡ Some (record { from = event; to = next }))

-- a way by a connection is by one that leads to the event from one that can be reached
abbrev pub IsLed : List Connection → List Way → ℕ → Way → Type 0
IsLed connections ways event way.Unreached = Unit {0}
IsLed connections ways event way.Start = Unit {0}
IsLed connections ways event (way.By place) = (tail : ℕ)
    × (slice_get connections place ≡ Some (record { from = tail; to = event }))
    × (is_reached (way_at ways tail) ≡ true)

-- each event has a way that is so
abbrev pub AreLed : List Connection → List Way → Type 0
AreLed connections ways = (event : ℕ) → IsLed connections ways event (way_at ways event)

-- a journey is built backward along the ways from its end to a start
pub record IsWayBack (connections : List Connection) (ways : List Way) (last : ℕ)
    (journey : List ℕ) : Type 0 where
  pub first : ℕ
  pub rest : List ℕ
  pub is : journey ≡ first ∷ rest
  pub start : way_at ways first ≡ way.Start
  pub end : last_of (first ∷ rest) ≡ Some last
  pub steps : All (λ pair. IsStep connections ways pair.0 pair.1) (neighbours (first ∷ rest))

-- the same, or an empty journey where there is no end
abbrev pub IsJourneyTo : List Connection → List Way → Option ℕ → List ℕ → Type 0
IsJourneyTo connections ways None journey = journey ≡ []
IsJourneyTo connections ways (Some end) journey = IsWayBack connections ways end journey

-- the events that can be reached before an end, rising
abbrev pub reached_before : JourneyParts → List Way → Option ℕ → List ℕ
reached_before net ways end =
    filter (λ event. is_reached (way_at ways event) && is_before_end net end event)
    (range_with_len 0 (length ways))
