-- The trips of a day, and the changes between them, in the words of the subject.
use Rattle.std.specs.Prelude.{ℕ, ◌≡◌, ◌+◌, ◌%◌, ◌≤◌, true, List, All, Contains}
use Rattle.event_tables.specs.declared.expanded_activity.ExpandedActivity.{ExpandedActivity}
use Rattle.event_tables.specs.declared.expanded_event.ExpandedEvent.{ExpandedEvent}
use Rattle.event_tables.specs.declared.periodic_activity.PeriodicActivity.{PeriodicActivity}
use Rattle.event_tables.specs.declared.periodic_event.PeriodicEvent.{PeriodicEvent}
use Rattle.event_tables.specs.PeriodicRuns.{runs_of}
use Rattle.roll_out.specs.declared.day.Day.{Day}
use Rattle.roll_out.specs.DayActivities.{change_copy, is_change}
use Rattle.roll_out.specs.DayTrips.{TripParts, first_time}
use Rattle.roll_out.specs.TimedRuns.{TimedParts, minutes_of, timed_from}

-- a time of a day, both ends included, at which it is the time of a run's first event in some
-- period
pub record IsStart (network : TimedParts) (day : Day) (run : List PeriodicEvent) (time : ℕ) : Type
    0 where
  pub due : time % network.period ≡ first_time network run
  pub not_early : day.earliest ≤ time
  pub not_late : time ≤ day.latest

-- a trip is one of a run, at one of its starts
pub record IsTripOf (network : TimedParts) (day : Day) (trip : TripParts) : Type 0 where
  pub run : List PeriodicEvent
  pub there : Contains (runs_of network.events) run
  pub starts : IsStart network day run trip.start
  pub events : trip.run ≡ timed_from network 0 run

-- trips are those of each run at each of its starts in the day, and no others
pub record AreTripsOf (network : TimedParts) (day : Day) (trips : List TripParts) : Type 0 where
  pub sound : All (IsTripOf network day) trips
  pub whole : (run : List PeriodicEvent) (time : ℕ) → Contains (runs_of network.events) run
      → IsStart network day run time → (trip : TripParts) × Contains trips trip
      × (trip.start ≡ time)
      × (trip.run ≡ timed_from network 0 run)

-- a copy of a change, between copies of its events that are as far apart as it takes
pub record IsChangeOf (network : TimedParts) (events : List ExpandedEvent)
    (row : ExpandedActivity) : Type 0 where
  pub change : PeriodicActivity
  pub tail : ExpandedEvent
  pub head : ExpandedEvent
  pub there : Contains network.activities change
  pub kind : is_change change ≡ true
  pub leaves : Contains events tail × (tail.periodic ≡ change.from)
  pub comes : Contains events head × (head.periodic ≡ change.to)
  pub apart : head.time ≡ tail.time + minutes_of network change
  pub is : row ≡ change_copy change tail.id head.id

-- changes are all these copies, and no others
pub record AreChangesOf (network : TimedParts) (events : List ExpandedEvent)
    (changes : List ExpandedActivity) : Type 0 where
  pub sound : All (IsChangeOf network events) changes
  pub whole : (row : ExpandedActivity) → IsChangeOf network events row → Contains changes row
