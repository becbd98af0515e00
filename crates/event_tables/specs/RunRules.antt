-- The rules of runs, which are looked for once periodic events and activities are read: no run is
-- broken, no event is unjoined, and no activity is stray.
use Rattle.std.specs.Prelude.{ℕ, ◌≡◌, ◌+◌, ◌%◌, ◌==◌, Bool, ◌&&◌, ◌||◌, not, List, [], length, map, filter}
use Rattle.std.specs.List.{flat_map, enumerate_from, count_by, list_any}
use Rattle.event_tables.specs.declared.event_kind.EventKind.{EventKind}
use Rattle.event_tables.specs.declared.event_kind.EventKind.TheVariants as event
use Rattle.event_tables.specs.declared.periodic_activity.PeriodicActivity.{PeriodicActivity}
use Rattle.event_tables.specs.declared.periodic_event.PeriodicEvent.{PeriodicEvent}
use Rattle.event_tables.specs.declared.periodic_kind.PeriodicKind.{PeriodicKind}
use Rattle.event_tables.specs.declared.periodic_kind.PeriodicKind.TheVariants as kind
use Rattle.event_tables.specs.Kinds.{event_kind_place, periodic_kind_place}
use Rattle.event_tables.specs.PeriodicRuns.{joins, runs_of, neighbours}

-- an event is of the wrong kind at a place of its run, counted from 0: a run alternates, and begins
-- with a departure
abbrev pub is_out_of_turn : ℕ → PeriodicEvent → Bool
is_out_of_turn place event = not (event_kind_place event.kind == place % 2)

-- the event at a place is the last one of a run of so many events, an odd number
abbrev pub ends_odd : ℕ → ℕ → Bool
ends_odd size place = place + 1 == size && size % 2 == 1

-- a run of so many events is broken at an event with its place
abbrev pub breaks : ℕ → ℕ × PeriodicEvent → Bool
breaks size at = is_out_of_turn at.0 at.1 || ends_odd size at.0

-- the events at which a run is broken
abbrev pub broken_in : List PeriodicEvent → List PeriodicEvent
broken_in run = map (λ at. at.1) (filter (breaks (length run)) (enumerate_from 0 run))

-- the events at which the runs of events are
abbrev pub broken_events : List PeriodicEvent → List PeriodicEvent
broken_events events = flat_map broken_in (runs_of events)

-- the kind of the activity that leads from an event to the next one of its run
abbrev pub way_on : EventKind → PeriodicKind
way_on event.Departure = kind.Drive
way_on event.Arrival = kind.Wait

-- two kinds that are one
abbrev pub same_kind : PeriodicKind → PeriodicKind → Bool
same_kind one other = periodic_kind_place one == periodic_kind_place other

-- an activity leads from an event to the next one
abbrev pub leads : PeriodicEvent × PeriodicEvent → PeriodicActivity → Bool
leads pair activity =
    same_kind activity.kind (way_on pair.0.kind) && activity.from == pair.0.id
    && activity.to == pair.1.id

-- not exactly one of some activities does
abbrev pub lacks_way : List PeriodicActivity → PeriodicEvent × PeriodicEvent → Bool
lacks_way activities pair = not (count_by (leads pair) activities == 1)

-- the events of a run that are not joined to the next one by exactly one activity
abbrev pub unjoined_in : List PeriodicActivity → List PeriodicEvent → List PeriodicEvent
unjoined_in activities run = map (λ pair. pair.0) (filter (lacks_way activities) (neighbours run))

-- the events that are not so in the runs of events
abbrev pub unjoined_events : List PeriodicEvent → List PeriodicActivity → List PeriodicEvent
unjoined_events events activities = flat_map (unjoined_in activities) (runs_of events)

-- an activity goes from an event to another, and its kind may join these two
abbrev pub goes_between : PeriodicActivity → PeriodicEvent → PeriodicEvent → Bool
goes_between activity event next =
    activity.from == event.id && activity.to == next.id && joins activity.kind event next

-- it goes so between two of some events
abbrev pub is_placed : List PeriodicEvent → PeriodicActivity → Bool
is_placed events activity = list_any (λ event. list_any (goes_between activity event) events) events

-- a drive that may take no time
abbrev pub drives_at_once : PeriodicActivity → Bool
drives_at_once at = same_kind at.kind kind.Drive && at.lower == 0

-- an activity that joins no two events in the way of its kind, or a drive that may take no time
abbrev pub is_stray : List PeriodicEvent → PeriodicActivity → Bool
is_stray events at = not (is_placed events at) || drives_at_once at

-- the activities that are so
abbrev pub stray_activities : List PeriodicEvent → List PeriodicActivity → List PeriodicActivity
stray_activities events activities = filter (is_stray events) activities

-- events and activities break none of these rules
pub record KeepRunRules (events : List PeriodicEvent)
    (activities : List PeriodicActivity) : Type 0 where
  pub whole : broken_events events ≡ []
  pub joined : unjoined_events events activities ≡ []
  pub placed : stray_activities events activities ≡ []
