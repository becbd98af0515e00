-- The trips of a day, and their events: each run of a timetable, once for each period.
use Rattle.std.specs.Prelude.{ℕ, ◌+◌, ◌-◌, ◌*◌, ◌/◌, nat_le, Bool, ◌&&◌, List, [], ◌∷◌, length, map, filter, get_or, None}
use Rattle.std.specs.List.{flat_map, range_with_len, enumerate_from}
use Rattle.event_tables.specs.declared.expanded_event.ExpandedEvent.{ExpandedEvent}
use Rattle.event_tables.specs.declared.periodic_event.PeriodicEvent.{PeriodicEvent}
use Rattle.event_tables.specs.declared.trip.Trip.{Trip}
use Rattle.event_tables.specs.declared.trip.TripEnd.{TripEnd}
use Rattle.event_tables.specs.PeriodicRuns.{runs_of}
use Rattle.roll_out.specs.declared.day.Day.{Day}
use Rattle.roll_out.specs.declared.timed_event.TimedEvent.{TimedEvent}
use Rattle.roll_out.specs.TimedRuns.{TimedParts, no_event, time_at, timed_from}

-- a time lies in a day, both ends included
abbrev pub is_in_day : Day → ℕ → Bool
is_in_day day time = nat_le day.earliest time && nat_le time day.latest

-- the times in a day that are whole periods after a time
abbrev pub starts : ℕ → Day → ℕ → List ℕ
starts period day time =
    filter (is_in_day day)
    (map (λ periods. time + periods * period) (range_with_len 0 (day.latest / period + 1)))

-- the time of the first event of a run
abbrev pub first_time : TimedParts → List PeriodicEvent → ℕ
first_time network run = time_at network (get_or run 0 no_event).id

-- what starts in a day: a time, and the events of a run from then on
abbrev pub departures_of : TimedParts → Day → List PeriodicEvent → List (ℕ × List TimedEvent)
departures_of network day run =
    map (λ start. (start, timed_from network 0 run))
    (starts network.period day (first_time network run))

-- a trip: the id of its first event, its start, and its events from there on
pub record TripParts : Type 0 where
  pub first : ℕ
  pub start : ℕ
  pub run : List TimedEvent

-- trips whose events are numbered from an id on, one trip behind the other
unfoldable pub numbered_trips : ℕ → List (ℕ × List TimedEvent) → List TripParts
numbered_trips first [] = []
numbered_trips first (at ∷ departures) =
    record { first = first; start = at.0; run = at.1 }
    ∷ numbered_trips (first + length at.1) departures

-- the trips of a day, run by run
unfoldable pub trips_of : TimedParts → Day → List TripParts
trips_of network day =
    numbered_trips 1 (flat_map (departures_of network day) (runs_of network.events))

-- the event of a trip with an id, where the trip starts at a time
abbrev pub day_event : ℕ → ℕ × TimedEvent → ExpandedEvent
day_event start at = record {
  id = at.0;
  periodic = at.1.event.id;
  kind = at.1.event.kind;
  time = start + at.1.minutes;
  stop = at.1.event.stop;
}

-- the events of a trip
abbrev pub trip_events : TripParts → List ExpandedEvent
trip_events trip = map (day_event trip.start) (enumerate_from trip.first trip.run)

-- the events of trips, numbered by trip and place
abbrev pub day_events : List TripParts → List ExpandedEvent
day_events trips = flat_map trip_events trips

-- an event with its minutes, and an event of a day, that are not there
abbrev pub no_timed : TimedEvent
no_timed = record { event = no_event; minutes = 0; way = None }

-- the end of a trip at an event with an id
abbrev pub end_at : ℕ → ℕ × TimedEvent → TripEnd
end_at start at = record {
  event = at.0;
  periodic = at.1.event.id;
  stop = at.1.event.stop;
  time = start + at.1.minutes;
}

-- the end of a trip at a place of its events
abbrev pub trip_end_at : TripParts → ℕ → TripEnd
trip_end_at trip place = end_at trip.start (trip.first + place, get_or trip.run place no_timed)

-- a trip by its ends and its line
abbrev pub trip_row : TripParts → Trip
trip_row trip = record {
  start = trip_end_at trip 0;
  end = trip_end_at trip (length trip.run - 1);
  line = (get_or trip.run 0 no_timed).event.line;
}
