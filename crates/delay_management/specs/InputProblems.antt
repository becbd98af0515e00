-- The problem of what the input files hold.
use Rattle.std.specs.Prelude.{ℕ, ◌+◌, ◌-◌, ◌==◌, Bool, true, false, not, if◌then◌else◌, List, [], ◌∷◌, map, filter}
use Rattle.event_tables.specs.declared.activity_kind.ActivityKind.{ActivityKind}
use Rattle.event_tables.specs.declared.activity_kind.ActivityKind.TheVariants as kind
use Rattle.event_tables.specs.declared.delay_row.DelayRow.{DelayRow}
use Rattle.event_tables.specs.declared.expanded_activity.ExpandedActivity.{ExpandedActivity}
use Rattle.event_tables.specs.declared.expanded_event.ExpandedEvent.{ExpandedEvent}
use Rattle.event_tables.specs.declared.schedule_row.ScheduleRow.{ScheduleRow}
use Rattle.event_tables.specs.Kinds.{is_arrival}
use Rattle.event_tables.specs.Schedules.{is_empty_row}
use Rattle.propagation.specs.declared.day_event.DayEvent.{DayEvent}
use Rattle.propagation.specs.declared.step.Activity.{Activity}
use Rattle.propagation.specs.declared.step.Step.{Step}
use Rattle.propagation.specs.Problems.{DelayProblem}

-- the delay of the thing of an id: 0 without a row
unfoldable pub delay_of : List DelayRow → ℕ → ℕ
delay_of [] id = 0
delay_of (row ∷ rows) id = if row.id == id then row.delay else delay_of rows id

-- the index of the thing of an id; ids are places, which count from 1
abbrev pub index_of : ℕ → ℕ
index_of id = id - 1

-- an activity that is a change
abbrev pub is_change_kind : ActivityKind → Bool
is_change_kind kind.Change = true
is_change_kind _ = false

-- an activity is a change, or it is none
abbrev pub is_of : Bool → ExpandedActivity → Bool
is_of true activity = is_change_kind activity.kind
is_of false activity = not (is_change_kind activity.kind)

-- an activity with its delay
abbrev pub delayed : List DelayRow → ExpandedActivity → Activity
delayed delays activity = record {
  id = activity.id;
  step = record {
    from = index_of activity.from;
    to = index_of activity.to;
    lower = activity.lower;
    extra = delay_of delays activity.id;
  };
}

-- the activities that are changes, or those that are none, with their delays
abbrev pub activities_of : Bool → List DelayRow → List ExpandedActivity → List Activity
activities_of changes delays activities = map (delayed delays) (filter (is_of changes) activities)

-- the turn of an empty ride: its minutes from start to end, and the turnover time
abbrev pub turn_of : ℕ → ScheduleRow → Step
turn_of turnover row = record {
  from = index_of row.run.start.event;
  to = index_of row.run.end.event;
  lower = row.run.end.time - row.run.start.time;
  extra = turnover;
}

-- an event of a day, and all events
abbrev pub day_event : ExpandedEvent → DayEvent
day_event event = record { id = event.id; arrives = is_arrival event.kind; time = event.time }

abbrev pub day_events : List ExpandedEvent → List DayEvent
day_events events = map day_event events

-- an event as early as its delay allows
abbrev pub earliest_of : List DelayRow → ExpandedEvent → ℕ
earliest_of delays event = event.time + delay_of delays event.id

-- the problem of what the five input files hold, with a turnover time
abbrev pub problem_over : ℕ → List ExpandedEvent → List ExpandedActivity → List ScheduleRow
    → List DelayRow → List DelayRow → DelayProblem
problem_over turnover events activities schedule event_delays activity_delays = record {
  events = day_events events;
  earliest = map (earliest_of event_delays) events;
  rides = activities_of false activity_delays activities;
  changes = activities_of true activity_delays activities;
  turns = map (turn_of turnover) (filter is_empty_row schedule);
}
