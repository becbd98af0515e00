-- The activities between the events of a line concept: all pairs of events that a rule joins.
use Rattle.std.specs.Prelude.{ℕ, ◌/◌, ◌==◌, ◌+◌, ◌-◌, nat_lt, Bool, ◌&&◌, not, if◌then◌else◌, List, [], ◌∷◌, map, filter, unsigned_abs}
use Rattle.std.specs.Int.{div_ceil}
use Rattle.std.specs.List.{flat_map, enumerate_from}
use Rattle.std.specs.Ordering.{int_eq}
use Rattle.giv_files.specs.declared.key.Key.TheVariants as key
use Rattle.giv_files.specs.declared.setting.Setting.{Setting}
use Rattle.giv_files.specs.Settings.{amount}
use Rattle.event_tables.specs.declared.periodic_activity.PeriodicActivity.{PeriodicActivity}
use Rattle.event_tables.specs.declared.periodic_kind.PeriodicKind.{PeriodicKind}
use Rattle.event_tables.specs.declared.periodic_kind.PeriodicKind.TheVariants as kind
use Rattle.event_tables.specs.Kinds.{is_arrival, same_direction}
use Rattle.event_tables.specs.PeriodicRuns.{same_run, is_next, changes, headways}
use Rattle.event_activity.specs.declared.bounds.Bounds.{Bounds}
use Rattle.event_activity.specs.declared.joining.Joining.{Joining}
use Rattle.event_activity.specs.declared.joining.Joining.TheVariants as joining
use Rattle.event_activity.specs.declared.run_event.RunEvent.{RunEvent}

-- the first events of a run and of the next repetition of its line and direction
abbrev pub repeats : RunEvent → RunEvent → Bool
repeats event next = event.place == 0 && next.place == 0 && event.row.line == next.row.line
    && same_direction event.row.direction next.row.direction
    && next.row.repetition == event.row.repetition + 1

-- departures of two runs from one stop over one edge, that with the smaller id first
abbrev pub shares_edge : RunEvent → RunEvent → Bool
shares_edge event next = headways event.row next.row && int_eq event.edge.id next.edge.id
    && nat_lt event.row.id next.row.id && not (same_run event.row next.row)

-- which two events are joined: an event and the next one of its run; the first events of two
-- repetitions, one after the other; an arrival and a departure of another line at the same stop;
-- departures of two runs from one stop over one edge
abbrev pub joined : Joining → RunEvent → RunEvent → Bool
joined joining.Run event next = is_next event.row next.row
joined joining.Sync event next = repeats event next
joined joining.Change event next = changes event.row next.row
joined joining.Headway event next = shares_edge event next

-- the kind of an activity, by the event from which it goes
abbrev pub kind_from : Joining → RunEvent → PeriodicKind
kind_from joining.Run event = if is_arrival event.row.kind then kind.Wait else kind.Drive
kind_from joining.Sync event = kind.Sync
kind_from joining.Change event = kind.Change
kind_from joining.Headway event = kind.Headway

-- the bounds of a kind of activities, by the event from which one of them goes: a drive has those
-- of its edge; waits and changes have bounds by settings; syncs spread the repetitions of a line over
-- the period, evenly up to a minute; and headways keep two departures apart, on both sides of the end
-- of the period
abbrev pub bounds_from : List Setting → PeriodicKind → RunEvent → Bounds
bounds_from settings kind.Drive event =
    record { lower = unsigned_abs event.edge.lower; upper = unsigned_abs event.edge.upper }
bounds_from settings kind.Wait event = record {
  lower = amount settings key.EanDefaultMinimalWaitingTime;
  upper = amount settings key.EanDefaultMaximalWaitingTime;
}
bounds_from settings kind.Change event = record {
  lower = amount settings key.EanDefaultMinimalChangeTime;
  upper = amount settings key.EanDefaultMaximalChangeTime;
}
bounds_from settings kind.Sync event = record {
  lower = amount settings key.PeriodLength / event.frequency;
  upper = div_ceil (amount settings key.PeriodLength) event.frequency;
}
bounds_from settings kind.Headway event = record {
  lower = amount settings key.EanHeadway;
  upper = amount settings key.PeriodLength - amount settings key.EanHeadway;
}

-- an activity of a kind from an event to another; it has no number yet
abbrev pub activity_of : List Setting → PeriodicKind → RunEvent → RunEvent → PeriodicActivity
activity_of settings kind event next = record {
  id = 0;
  kind = kind;
  from = event.row.id;
  to = next.row.id;
  lower = (bounds_from settings kind event).lower;
  upper = (bounds_from settings kind event).upper;
}

-- the activities that go from an event to some of all events
abbrev pub from_event : List Setting → Joining → List RunEvent → RunEvent → List PeriodicActivity
from_event settings joining events event =
    map (activity_of settings (kind_from joining event) event) (filter (joined joining event) events)

-- the activities of a joining, by the event from which they go, and then by the other
abbrev pub joined_events : List Setting → List RunEvent → Joining → List PeriodicActivity
joined_events settings events joining = flat_map (from_event settings joining events) events

-- a headway is kept at all
abbrev pub keeps_headway : List Setting → Bool
keeps_headway settings = nat_lt 0 (amount settings key.EanHeadway)

-- the joinings in the order in which their activities are numbered, without headways or with them
abbrev pub joinings_with : Bool → List Joining
joinings_with headway =
    joining.Run ∷ joining.Sync ∷ joining.Change ∷ (if headway then joining.Headway ∷ [] else [])

abbrev pub joinings : List Setting → List Joining
joinings settings = joinings_with (keeps_headway settings)

-- an activity with a number as its id
abbrev pub with_number : ℕ × PeriodicActivity → PeriodicActivity
with_number at = record at.1 { id = at.0 }

-- activities with their places as ids, from 1
abbrev pub with_numbers : List PeriodicActivity → List PeriodicActivity
with_numbers activities = map with_number (enumerate_from 1 activities)

-- the activities between events, numbered joining by joining
unfoldable pub concept_activities : List Setting → List RunEvent → List PeriodicActivity
concept_activities settings events =
    with_numbers (flat_map (joined_events settings events) (joinings settings))
