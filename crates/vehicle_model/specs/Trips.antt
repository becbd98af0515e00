-- Trips over a network, and which trip may follow which.
use Rattle.std.specs.Prelude.{ℕ, ℤ, pos, ◌≡◌, ◌+◌, ◌*◌, ◌≤◌, ◌-ℤ◌, nat_le, if◌then◌else◌, List}
use Rattle.std.specs.Prelude.{◌++◌, length, slice_get, Option, Some, None, option_map}
use Rattle.std.specs.Prelude.{option_and_then}
use Rattle.link_plans.specs.Links.{Links}
use Rattle.event_tables.specs.declared.trip.Trip.{Trip}
use Rattle.event_tables.specs.Trips.{trip_input, AreTrips as AreTripRows}
use Rattle.tables.specs.declared.refusal.Refusal.{Refusal}
use Rattle.tables.specs.Inputs.{records_of, input_faults}
use Rattle.walks.specs.Networks.{NetworkParts, IsNetwork}
use Rattle.ptn_network.specs.Networks.{network_of, network_faults, stops_of}
use Rattle.walks.specs.RisingIds.{index_in}
use Rattle.walks.specs.Walks.{edge_time, least_sum, IsLeastSum}

-- trips over a network, the minutes of a turnover, and what a vehicle and a dead minute cost, in
-- millionths
pub record TripsParts : Type 0 where
  pub network : NetworkParts
  pub trips : List Trip
  pub turnover : ℕ
  pub vehicle : ℕ
  pub empty : ℕ

-- the trips of texts of stops, of edges and of trips
unfoldable pub trips_of : List ℕ → List ℕ → List ℕ → ℕ → ℕ → ℕ → TripsParts
trips_of stops_text edges_text trips_text turnover vehicle empty = record {
  network = network_of stops_text edges_text;
  trips = records_of (trip_input (Some (stops_of stops_text))) trips_text;
  turnover = turnover;
  vehicle = vehicle;
  empty = empty;
}

-- every fault of these texts, in order
unfoldable pub trips_faults : List ℕ → List ℕ → List ℕ → List Refusal
trips_faults stops_text edges_text trips_text =
    network_faults stops_text edges_text
    ++ input_faults (trip_input (Some (stops_of stops_text))) trips_text

-- the indexes of the stops where a trip starts and where it ends
abbrev pub start_stop : NetworkParts → Trip → ℕ
start_stop network trip = index_in network.stops (pos trip.start.stop)

abbrev pub end_stop : NetworkParts → Trip → ℕ
end_stop network trip = index_in network.stops (pos trip.end.stop)

-- the dead minutes from a trip to another: the least time of all walks between the stops; none
-- without a walk
abbrev pub dead_minutes : NetworkParts → Trip → Trip → Option ℕ
dead_minutes network before after =
    least_sum network edge_time (end_stop network before) (start_stop network after)

-- a trip may follow another: there is time for a turnover and for the least of all walks between
-- the stops
pub record MayFollow (trips : TripsParts) (i j minutes : ℕ) : Type 0 where
  pub before : Trip
  pub after : Trip
  pub before_at : slice_get trips.trips i ≡ Some before
  pub after_at : slice_get trips.trips j ≡ Some after
  pub least : IsLeastSum trips.network.edges edge_time (end_stop trips.network before)
      (start_stop trips.network after) (Some minutes)
  pub in_time : before.end.time + trips.turnover + minutes ≤ after.start.time

-- the dead minutes of a link, where they leave time for the turnover
abbrev pub if_in_time : TripsParts → Trip → Trip → ℕ → Option ℕ
if_in_time trips before after minutes =
    if nat_le (before.end.time + trips.turnover + minutes) after.start.time
    then Some minutes else None

-- the dead minutes of the link between two trips, where the second may follow the first
abbrev pub link_between : TripsParts → Trip → Trip → Option ℕ
link_between trips before after =
    option_and_then (if_in_time trips before after) (dead_minutes trips.network before after)

-- the same by the numbers of the trips, from 0
abbrev pub link_minutes : TripsParts → ℕ → ℕ → Option ℕ
link_minutes trips i j = option_and_then
    (λ before. option_and_then (λ after. link_between trips before after) (slice_get trips.trips j))
    (slice_get trips.trips i)

-- what a link of some dead minutes gains: a vehicle, less these minutes
abbrev pub gain_of : TripsParts → ℕ → ℤ
gain_of trips minutes = pos trips.vehicle -ℤ pos (trips.empty * minutes)

-- the links between trips
abbrev pub links_of : TripsParts → Links
links_of trips = record {
  count = length trips.trips;
  gain = λ i j. option_map (gain_of trips) (link_minutes trips i j);
}

-- what always holds of trips: the network is one, trips keep the rules of their file, and the
-- settings are in their ranges
pub record AreTrips (trips : TripsParts) : Type 0 where
  pub network : IsNetwork trips.network
  pub rows : AreTripRows (Some trips.network.stops) trips.trips
  pub short_turnover : trips.turnover ≤ 10000
  pub cheap_vehicle : trips.vehicle ≤ 1000000000000
  pub cheap_minutes : trips.empty ≤ 1000000000000
