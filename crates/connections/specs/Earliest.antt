-- The journey that arrives first, and the events that can be reached before it arrives.
use Rattle.std.specs.Prelude.{ℕ, ℤ, ◌≡◌, ◌<◌, ◌≤◌, ◌⊎◌, ◌↔◌, nat_lt, Bool, true, false, List, [], ◌∷◌, slice_get, All}
use Rattle.std.specs.Prelude.{Contains, Some}
use Rattle.std.specs.List.{list_all}
use Rattle.std.specs.Option.{option_map_or}
use Rattle.connections.specs.declared.connection.Connection.{Connection}
use Rattle.connections.specs.declared.found.Found.{Found}
use Rattle.connections.specs.Nets.{JourneyParts, time_at}
use Rattle.connections.specs.Journeys.{IsReached, is_journey, last_of, neighbours, passes_at, starts}

-- an event is no later than another: it is before it in time, or at the same time with no greater
-- id
abbrev pub IsNoLater : JourneyParts → ℕ → ℕ → Type 0
IsNoLater net event other =
    (time_at net event < time_at net other)
    ⊎ ((time_at net event ≡ time_at net other) × (event ≤ other))

-- a journey whose last event is no later than that of any
pub record IsEarliest (net : JourneyParts) (from to start : ℤ) (journey : List ℕ) : Type 0 where
  pub is : is_journey net from to start journey ≡ true
  pub first : (other : List ℕ) (end other_end : ℕ) → is_journey net from to start other ≡ true
      → last_of journey ≡ Some end → last_of other ≡ Some other_end → IsNoLater net end other_end

-- the step into an event: by the first connection into it from an event that can be reached
pub record IsFirstWay (net : JourneyParts) (from start : ℤ) (event next : ℕ) : Type 0 where
  pub place : ℕ
  pub is : slice_get net.connections place ≡ Some (record { from = event; to = next })
  pub reached : IsReached net from start event
  pub least : (other : ℕ) (connection : Connection) → other < place
      → slice_get net.connections other ≡ Some connection → connection.to ≡ next
      → ¬ IsReached net from start connection.from

-- a journey is built backward from its last event: into each event by its first way, up to a start
abbrev pub IsBuiltBack : JourneyParts → ℤ → ℤ → List ℕ → Type 0
IsBuiltBack net from start journey =
    All (λ pair. (passes_at (starts from start) net pair.1 ≡ false)
    × IsFirstWay net from start pair.0 pair.1) (neighbours journey)

-- an event is before the arrival of a journey; where that is empty, each event is
abbrev pub is_before : JourneyParts → List ℕ → ℕ → Bool
is_before net journey event =
    option_map_or (λ end. nat_lt (time_at net event) (time_at net end)) (last_of journey) true

-- the events of a list rise
abbrev pub is_rising : List ℕ → Bool
is_rising events = list_all (λ pair. nat_lt pair.0 pair.1) (neighbours events)

-- events are those before the arrival of a journey that can be reached, rising
pub record AreReached (net : JourneyParts) (from start : ℤ) (journey reached : List ℕ)
    : Type 0 where
  pub rising : is_rising reached ≡ true
  pub each : (event : ℕ) → Contains reached event
      ↔ (IsReached net from start event × (is_before net journey event ≡ true))

-- the journey that is told: an empty one where there is none
abbrev pub IsToldJourney : JourneyParts → ℤ → ℤ → ℤ → List ℕ → Type 0
IsToldJourney net from to start [] = (other : List ℕ) → is_journey net from to start other ≡ false
IsToldJourney net from to start (event ∷ more) =
    IsEarliest net from to start (event ∷ more) × IsBuiltBack net from start (event ∷ more)

-- what is found from a stop to another, not before a time
pub record IsAnswer (net : JourneyParts) (from to start : ℤ) (found : Found) : Type 0 where
  pub journey : IsToldJourney net from to start found.journey
  pub reached : AreReached net from start found.journey found.reached
