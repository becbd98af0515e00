-- The activities between the events of a day.
use Rattle.std.specs.Prelude.{ℕ, ◌+◌, ◌==◌, Bool, ◌&&◌, List, [], ◌∷◌, ◌++◌, map, filter, Option, Some, None}
use Rattle.std.specs.List.{flat_map, enumerate_from}
use Rattle.event_tables.specs.declared.activity_kind.ActivityKind.{ActivityKind}
use Rattle.event_tables.specs.declared.activity_kind.ActivityKind.TheVariants as day_kind
use Rattle.event_tables.specs.declared.event_kind.EventKind.{EventKind}
use Rattle.event_tables.specs.declared.event_kind.EventKind.TheVariants as event_kind
use Rattle.event_tables.specs.declared.expanded_activity.ExpandedActivity.{ExpandedActivity}
use Rattle.event_tables.specs.declared.expanded_event.ExpandedEvent.{ExpandedEvent}
use Rattle.event_tables.specs.declared.periodic_activity.PeriodicActivity.{PeriodicActivity}
use Rattle.event_tables.specs.declared.periodic_kind.PeriodicKind.TheVariants as kind
use Rattle.event_tables.specs.RunRules.{same_kind}
use Rattle.roll_out.specs.DayTrips.{TripParts, day_events}
use Rattle.roll_out.specs.TimedRuns.{TimedParts, minutes_of}

-- the copy, of a kind, of an activity between the events of two ids; it has no number yet
abbrev pub copy_of : ActivityKind → PeriodicActivity → ℕ → ℕ → ExpandedActivity
copy_of kind activity from to = record {
  id = 0;
  periodic = activity.id;
  kind = kind;
  from = from;
  to = to;
  lower = activity.lower;
  upper = activity.upper;
}

-- the kind of what leads on from an event of a kind: a drive from a departure, a wait from an arrival
abbrev pub way_kind : EventKind → ActivityKind
way_kind event_kind.Departure = day_kind.Drive
way_kind event_kind.Arrival = day_kind.Wait

-- the copy of the activity, if any, that leads from an event to the next one of its trip
abbrev pub way_from : EventKind → ℕ → Option PeriodicActivity → List ExpandedActivity
way_from event id None = []
way_from event id (Some activity) = copy_of (way_kind event) activity id (id + 1) ∷ []

-- the drives and waits of a trip
abbrev pub trip_ways : TripParts → List ExpandedActivity
trip_ways trip =
    flat_map (λ at. way_from at.1.event.kind at.0 at.1.way) (enumerate_from trip.first trip.run)

-- the activities between lines
abbrev pub is_change : PeriodicActivity → Bool
is_change activity = same_kind activity.kind kind.Change

abbrev pub change_copy : PeriodicActivity → ℕ → ℕ → ExpandedActivity
change_copy activity from to = copy_of day_kind.Change activity from to

-- an event is a copy of that of an id
abbrev pub is_copy : ℕ → ExpandedEvent → Bool
is_copy id event = event.periodic == id

-- an event is a copy of the head of an activity, as long after a tail as the activity takes
abbrev pub is_head : TimedParts → PeriodicActivity → ExpandedEvent → ExpandedEvent → Bool
is_head network activity tail head =
    is_copy activity.to head && head.time == tail.time + minutes_of network activity

-- the copies of a change from a copy of its tail
abbrev pub changes_from : TimedParts → List ExpandedEvent → PeriodicActivity → ExpandedEvent
    → List ExpandedActivity
changes_from network events activity tail =
    map (λ head. change_copy activity tail.id head.id) (filter (is_head network activity tail) events)

-- the copies of a change, by the copies of its tail
abbrev pub change_copies : TimedParts → List ExpandedEvent → PeriodicActivity
    → List ExpandedActivity
change_copies network events activity =
    flat_map (changes_from network events activity) (filter (is_copy activity.from) events)

-- the copies of all changes
abbrev pub day_changes : TimedParts → List ExpandedEvent → List ExpandedActivity
day_changes network events =
    flat_map (change_copies network events) (filter is_change network.activities)

-- an activity with a number as its id
abbrev pub with_number : ℕ × ExpandedActivity → ExpandedActivity
with_number at = record at.1 { id = at.0 }

abbrev pub with_numbers : List ExpandedActivity → List ExpandedActivity
with_numbers activities = map with_number (enumerate_from 1 activities)

-- the drives and waits, trip by trip
abbrev pub day_ways : List TripParts → List ExpandedActivity
day_ways trips = flat_map trip_ways trips

-- the activities between the events of trips, numbered: the drives and waits, and then the changes
unfoldable pub day_activities : TimedParts → List TripParts → List ExpandedActivity
day_activities network trips =
    with_numbers (day_ways trips ++ day_changes network (day_events trips))
