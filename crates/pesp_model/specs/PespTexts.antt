-- The problem of the texts of periodic events and of periodic activities.
use Rattle.std.specs.Prelude.{ℕ, pos, ◌-◌, List, ◌++◌, length, map}
use Rattle.tables.specs.declared.refusal.Refusal.{Refusal}
use Rattle.tables.specs.Inputs.{input_faults, records_of}
use Rattle.event_tables.specs.declared.periodic_activity.PeriodicActivity.{PeriodicActivity}
use Rattle.event_tables.specs.declared.periodic_event.PeriodicEvent.{PeriodicEvent}
use Rattle.event_tables.specs.PeriodicFiles.{periodic_event_input, periodic_activity_input, periodic_event_ids}
use Rattle.pesp.specs.declared.activity.PespActivity.{PespActivity}
use Rattle.pesp.specs.Timetables.{Problem}

-- the index of the event of an id; ids are places, which count from 1
abbrev pub event_index : ℕ → ℕ
event_index id = id - 1

-- the activity of a row, between indexes of events
abbrev pub activity_of : PeriodicActivity → PespActivity
activity_of row = record {
  from = event_index row.from;
  to = event_index row.to;
  lower = pos row.lower;
  upper = pos row.upper;
}

-- the problem of so many events and of the rows of activities between them
abbrev pub problem_over : ℕ → ℕ → List PeriodicActivity → Problem
problem_over period events rows =
    record { period = period; events = events; activities = map activity_of rows }

-- the events of a text, and the activities of a text between some events
unfoldable pub events_of : List ℕ → List PeriodicEvent
events_of text = records_of periodic_event_input text

unfoldable pub activities_of : List PeriodicEvent → List ℕ → List PeriodicActivity
activities_of events text = records_of (periodic_activity_input (periodic_event_ids events)) text

-- the problem of the texts of events and of activities
unfoldable pub problem_of : ℕ → List ℕ → List ℕ → Problem
problem_of period events_text activities_text =
    problem_over period (length (events_of events_text))
    (activities_of (events_of events_text) activities_text)

-- every fault of these texts, in order
unfoldable pub problem_faults : List ℕ → List ℕ → List Refusal
problem_faults events_text activities_text =
    input_faults periodic_event_input events_text
    ++ input_faults (periodic_activity_input (periodic_event_ids (events_of events_text)))
    activities_text
