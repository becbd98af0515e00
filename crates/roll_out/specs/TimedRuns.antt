-- A timetable over periodic events and activities, and its runs with the minutes from their starts.
use Rattle.std.specs.Prelude.{ℕ, pos, ◌+◌, ◌-◌, List, [], ◌∷◌, get_or, unsigned_abs, find, Option, Some, None}
use Rattle.event_tables.specs.declared.direction.Direction.TheVariants as direction
use Rattle.event_tables.specs.declared.event_kind.EventKind.TheVariants as event_kind
use Rattle.event_tables.specs.declared.periodic_activity.PeriodicActivity.{PeriodicActivity}
use Rattle.event_tables.specs.declared.periodic_event.PeriodicEvent.{PeriodicEvent}
use Rattle.event_tables.specs.declared.periodic_time.PeriodicTime.{PeriodicTime}
use Rattle.event_tables.specs.RunRules.{leads}
use Rattle.pesp.specs.Timetables.{tension}
use Rattle.roll_out.specs.declared.timed_event.TimedEvent.{TimedEvent}

-- a timetable: its period, and the times of events in their order
pub record TimedParts : Type 0 where
  pub period : ℕ
  pub events : List PeriodicEvent
  pub activities : List PeriodicActivity
  pub times : List PeriodicTime

-- an event, and a time, that are not there
abbrev pub no_event : PeriodicEvent
no_event = record {
  id = 0;
  kind = event_kind.Departure;
  stop = 0;
  line = 0;
  direction = direction.Forward;
  repetition = 0;
}

abbrev pub no_time : PeriodicTime
no_time = record { event = 0; time = 0 }

-- the time of the event of an id, since ids count from 1
abbrev pub time_at : TimedParts → ℕ → ℕ
time_at network id = (get_or network.times (id - 1) no_time).time

-- the minutes that an activity takes: its tension
abbrev pub minutes_of : TimedParts → PeriodicActivity → ℕ
minutes_of network activity =
    unsigned_abs
    (tension network.period (pos activity.lower) (time_at network activity.from)
    (time_at network activity.to))

-- the drive or wait that leads from an event to the next one of its run; behind the last event of
-- a run there is none
abbrev pub way_on : TimedParts → PeriodicEvent → List PeriodicEvent → Option PeriodicActivity
way_on network event [] = None
way_on network event (next ∷ run) = find (leads (event, next)) network.activities

-- the minutes that it takes
abbrev pub minutes_on : TimedParts → Option PeriodicActivity → ℕ
minutes_on network None = 0
minutes_on network (Some activity) = minutes_of network activity

-- events of a run, each with the minutes from the start of the run to it, where so many lead to the
-- first of them, and with the activity that leads to the next one
unfoldable pub timed_from : TimedParts → ℕ → List PeriodicEvent → List TimedEvent
timed_from network minutes [] = []
timed_from network minutes (event ∷ run) =
    record { event = event; minutes = minutes; way = way_on network event run }
    ∷ timed_from network (minutes + minutes_on network (way_on network event run)) run
