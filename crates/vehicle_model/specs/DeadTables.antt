-- Inner words: a table in which dead minutes are looked up.
use Rattle.std.specs.Prelude.{ℕ, ℤ, ◌≡◌, ◌<◌, List, length, map, get_or, Bool, true, false, Option, Some, None, All, ⊤}
use Rattle.event_tables.specs.declared.trip.Trip.{Trip}
use Rattle.walks.specs.Networks.{NetworkParts}
use Rattle.walks.specs.Walks.{edge_time, least_sums, IsLeastSum, AreLeastSums}
use Rattle.vehicle_model.specs.Schedules.{no_trip}
use Rattle.vehicle_model.specs.Trips.{start_stop, end_stop, dead_minutes}

-- the stops where trips start and end, by their indexes, and for some stops the least times from there
pub record DeadTable : Type 0 where
  pub starts : List ℕ
  pub ends : List ℕ
  pub times : List (Option (List (Option ℤ)))

-- some times are the least ones from a stop
pub record AreTimesFrom (network : NetworkParts) (stop : ℕ) (times : List (Option ℤ)) : Type 0 where
  pub sums : times ≡ least_sums network edge_time stop
  pub least : AreLeastSums network edge_time stop times

-- there are times from a stop
abbrev pub HasTimesFrom : NetworkParts → ℕ → Option (List (Option ℤ)) → Type 0
HasTimesFrom network stop None = ⊥
HasTimesFrom network stop (Some times) = AreTimesFrom network stop times

-- there are times from a stop, where they are wanted from it
abbrev pub HasWanted : NetworkParts → ℕ → Bool → Option (List (Option ℤ)) → Type 0
HasWanted network stop false times = ⊤
HasWanted network stop true times = HasTimesFrom network stop times

-- there are times from each stop that is wanted
abbrev pub HasAll : NetworkParts → List ℕ → List (Option (List (Option ℤ))) → Type 0
HasAll network wanted times =
    All (λ stop. HasTimesFrom network stop (get_or times stop None)) wanted

-- a table of the stops of trips, with the least times from each stop where one ends
pub record IsDeadTable (network : NetworkParts) (trips : List Trip) (table : DeadTable) : Type 0 where
  pub starts : table.starts ≡ map (start_stop network) trips
  pub ends : table.ends ≡ map (end_stop network) trips
  pub starts_within : All (λ stop. stop < length network.stops) table.starts
  pub ends_within : All (λ stop. stop < length network.stops) table.ends
  pub size : length table.times ≡ length network.stops
  pub times : HasAll network table.ends table.times

-- such a table of some trips
abbrev pub IsSomeTable : DeadTable → Type 0
IsSomeTable table = (network : NetworkParts) × ((trips : List Trip) × IsDeadTable network trips table)

-- minutes are the least ones of all walks from a trip to another, by their numbers
pub record AreDeadMinutes (network : NetworkParts) (trips : List Trip) (i j : ℕ) (minutes : Option ℕ) : Type 0 where
  pub value : minutes ≡ dead_minutes network (get_or trips i no_trip) (get_or trips j no_trip)
  pub least : IsLeastSum network.edges edge_time (end_stop network (get_or trips i no_trip))
      (start_stop network (get_or trips j no_trip)) minutes
