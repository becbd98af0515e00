-- The day of texts: its events at their planned or disposed times, and the activities that can be
-- used between them.
use Rattle.std.specs.Prelude.{ℕ, ◌+◌, ◌-◌, nat_le, Bool, List, [], ◌++◌, map, filter, get_or, zip, Option, Some, None}
use Rattle.tables.specs.declared.refusal.Refusal.{Refusal}
use Rattle.tables.specs.Inputs.{input_faults, records_of}
use Rattle.event_tables.specs.declared.event_kind.EventKind.{EventKind}
use Rattle.event_tables.specs.declared.event_kind.EventKind.TheVariants as kind
use Rattle.event_tables.specs.declared.expanded_activity.ExpandedActivity.{ExpandedActivity}
use Rattle.event_tables.specs.declared.expanded_event.ExpandedEvent.{ExpandedEvent}
use Rattle.event_tables.specs.DisposedTimes.{disposed_time_input}
use Rattle.event_tables.specs.ExpandedFiles.{expanded_activity_input, expanded_event_ids, expanded_event_input}
use Rattle.connections.specs.declared.connection.Connection.{Connection}
use Rattle.connections.specs.declared.event_kind.EventKind as net_kinds
use Rattle.connections.specs.declared.event_kind.EventKind.TheVariants as net_kind
use Rattle.connections.specs.declared.timed_event.TimedEvent.{TimedEvent}
use Rattle.connections.specs.Nets.{JourneyParts}

-- the index of the event of an id; ids are places, which count from 1
abbrev pub index_of : ℕ → ℕ
index_of id = id - 1

-- an activity can be used: its head is not before its tail and its least minutes
abbrev pub is_usable : List ℕ → ExpandedActivity → Bool
is_usable times activity =
    nat_le (get_or times (index_of activity.from) 0 + activity.lower)
    (get_or times (index_of activity.to) 0)

-- an activity from event to event
abbrev pub connection_of : ExpandedActivity → Connection
connection_of activity = record { from = index_of activity.from; to = index_of activity.to }

-- the kind of an event of a net
abbrev pub kind_of : EventKind → net_kinds.EventKind
kind_of kind.Departure = net_kind.Departure
kind_of kind.Arrival = net_kind.Arrival

-- an event at a time
abbrev pub timed : ExpandedEvent × ℕ → TimedEvent
timed at = record { kind = kind_of at.0.kind; stop = at.0.stop; time = at.1 }

-- the day of events at some times, and of activities
abbrev pub net_over : List ExpandedEvent → List ℕ → List ExpandedActivity → JourneyParts
net_over events times activities = record {
  events = map timed (zip events times);
  connections = map connection_of (filter (is_usable times) activities);
}

-- what texts hold: events, and activities between them
unfoldable pub events_of : List ℕ → List ExpandedEvent
events_of events_text = records_of expanded_event_input events_text

unfoldable pub activities_of : List ℕ → List ℕ → List ExpandedActivity
activities_of events_text activities_text =
    records_of (expanded_activity_input (events_of events_text)) activities_text

-- the times of events, which are the planned ones where no others are given
abbrev pub times_over : List ExpandedEvent → Option (List ℕ) → List ℕ
times_over events None = map (λ event. event.time) events
times_over events (Some times_text) =
    map (λ row. row.time) (records_of (disposed_time_input (expanded_event_ids events)) times_text)

unfoldable pub times_of : List ℕ → Option (List ℕ) → List ℕ
times_of events_text times_text = times_over (events_of events_text) times_text

-- the day of texts
unfoldable pub net_of : List ℕ → List ℕ → Option (List ℕ) → JourneyParts
net_of events_text activities_text times_text =
    net_over (events_of events_text) (times_of events_text times_text)
    (activities_of events_text activities_text)

-- the faults of the text of times, where there is one
abbrev pub time_faults_over : List ExpandedEvent → Option (List ℕ) → List Refusal
time_faults_over events None = []
time_faults_over events (Some times_text) =
    input_faults (disposed_time_input (expanded_event_ids events)) times_text

-- every fault of the texts, in the order of events, activities and times
unfoldable pub journey_faults : List ℕ → List ℕ → Option (List ℕ) → List Refusal
journey_faults events_text activities_text times_text =
    input_faults expanded_event_input events_text
    ++ input_faults (expanded_activity_input (events_of events_text)) activities_text
    ++ time_faults_over (events_of events_text) times_text
