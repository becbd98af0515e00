-- The file of trips, and its rules.
use Rattle.std.specs.Prelude.{ℕ, ℤ, pos, ◌≡◌, ◌≤◌, ◌<◌, ◌||◌, nat_le, nat_eq, Bool, false, not, List, [], ◌∷◌, length}
use Rattle.std.specs.Prelude.{map, All, Option, Some, None}
use Rattle.std.specs.List.{list_any, IsDistinct}
use Rattle.std.specs.Ordering.{int_eq}
use Rattle.tables.specs.declared.counted.Counted.TheVariants as counted
use Rattle.tables.specs.declared.file_id.FileId.TheVariants as file
use Rattle.tables.specs.declared.row_why.RowWhy.TheVariants as why
use Rattle.tables.specs.Columns.{trips_columns}
use Rattle.tables.specs.Inputs.{Input, RowRule, row_limit, own_id}
use Rattle.tables.specs.Writing.{InColumns}
use Rattle.event_tables.specs.declared.trip.Trip.{Trip}
use Rattle.event_tables.specs.Cells.{trip, trip_cells}

-- a stop is one of some
abbrev pub is_stop : List ℤ → ℕ → Bool
is_stop stops id = list_any (int_eq (pos id)) stops

-- the rule that no two trips have one start event
abbrev pub own_start : RowRule Trip
own_start = own_id (λ trip. pos trip.start.event)

-- one of the ends of a trip is no stop, where the stops are known
abbrev pub lacks_stop : Option (List ℤ) → Trip → Bool
lacks_stop None trip = false
lacks_stop (Some stops) trip = not (is_stop stops trip.start.stop) || not (is_stop stops trip.end.stop)

-- the rule that both ends of a trip are stops; it is left out where the stops are not known
abbrev pub known_stops : Option (List ℤ) → RowRule Trip
known_stops stops = record { is_broken = λ _ trip. lacks_stop stops trip; why = why.UnknownStop }

-- the rule that a trip ends after it starts
abbrev pub takes_time : RowRule Trip
takes_time = record { is_broken = λ _ trip. nat_le trip.end.time trip.start.time; why = why.Backward }

-- the rules of a trip, in their order
abbrev pub trip_rules : Option (List ℤ) → List (RowRule Trip)
trip_rules stops = own_start ∷ known_stops stops ∷ takes_time ∷ []

-- the file of trips over the ids of stops, where they are known
abbrev pub trip_input : Option (List ℤ) → Input Trip
trip_input stops = record {
  file = file.Trips;
  columns = trips_columns;
  read = trip;
  limits = row_limit counted.Trips 2000 ∷ [];
  row_rules = trip_rules stops;
  table_rules = [];
}

-- a trip between stops that takes time
pub record IsTrip (stops : Option (List ℤ)) (trip : Trip) : Type 0 where
  pub ends : lacks_stop stops trip ≡ false
  pub takes_time : trip.start.time < trip.end.time

-- what holds of trips: there are not too many, and each has a start event of its own
pub record AreTrips (stops : Option (List ℤ)) (trips : List Trip) : Type 0 where
  pub few : length trips ≤ 2000
  pub own : IsDistinct nat_eq (map (λ trip. trip.start.event) trips)
  pub each : All (IsTrip stops) trips
  pub fit : All (λ trip. InColumns trips_columns (trip_cells trip)) trips
