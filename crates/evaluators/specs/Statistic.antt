-- The fourteen values of the statistic.
use Rattle.std.specs.Prelude.{ℕ, ℤ, pos, ◌+◌, ◌-◌, ◌*◌, ◌*ℤ◌, true, nat_lt, unsigned_abs, List, [], ◌∷◌, length, map}
use Rattle.std.specs.Prelude.{filter, zip, codes, get_or, option_map, unwrap_or}
use Rattle.std.specs.List.{sum_by}
use Rattle.event_tables.specs.declared.periodic_kind.PeriodicKind.{PeriodicKind}
use Rattle.event_tables.specs.declared.periodic_kind.PeriodicKind.TheVariants as kind
use Rattle.event_tables.specs.declared.disposed_time.DisposedTime.{DisposedTime}
use Rattle.event_tables.specs.declared.expanded_activity.ExpandedActivity.{ExpandedActivity}
use Rattle.event_tables.specs.declared.expanded_event.ExpandedEvent.{ExpandedEvent}
use Rattle.event_tables.specs.declared.periodic_activity.PeriodicActivity.{PeriodicActivity}
use Rattle.event_tables.specs.declared.periodic_event.PeriodicEvent.{PeriodicEvent}
use Rattle.event_tables.specs.declared.periodic_time.PeriodicTime.{PeriodicTime}
use Rattle.event_tables.specs.declared.schedule_row.ScheduleRow.{ScheduleRow}
use Rattle.event_tables.specs.RunRules.{same_kind}
use Rattle.event_tables.specs.Schedules.{is_empty_row}
use Rattle.pesp_model.specs.PespTexts.{event_index}
use Rattle.pesp.specs.Timetables.{tension}
use Rattle.propagation.specs.Lateness.{missed_at}
use Rattle.delay_management.specs.DayLateness.{delay_at}
use Rattle.propagation.specs.LeastTimes.{latest}
use Rattle.delay_management.specs.InputProblems.{activities_of}
use Rattle.evaluators.specs.declared.day_values.DayValues.{DayValues}
use Rattle.evaluators.specs.declared.line_values.LineValues.{LineValues}
use Rattle.evaluators.specs.declared.measure.Measure.{Measure}
use Rattle.evaluators.specs.declared.measure.Measure.TheVariants as measure
use Rattle.evaluators.specs.declared.periodic_values.PeriodicValues.{PeriodicValues}
use Rattle.evaluators.specs.declared.rows.CostRow.{CostRow}
use Rattle.evaluators.specs.declared.rows.LineRow.{LineRow}
use Rattle.evaluators.specs.declared.statistic.Statistic.{Statistic}
use Rattle.evaluators.specs.FirstRows.{firsts}
use Rattle.evaluators.specs.StatisticInputs.{cost_with, lines_of}

-- ---- the line concept

-- the cost of a line
abbrev pub cost_of : List CostRow → ℤ → ℕ
cost_of costs line = unwrap_or (option_map (λ row. row.cost) (cost_with costs line)) 0

-- what the runs of a line cost: its cost as often as it runs
abbrev pub cost_of_runs : List CostRow → LineRow → ℕ
cost_of_runs costs row = cost_of costs row.line * row.frequency

-- what the line concept costs in millionths, where each line counts once, and how many lines run
unfoldable pub line_values : List CostRow → List LineRow → LineValues
line_values costs rows = record {
  cost = sum_by (cost_of_runs costs) (lines_of rows);
  running = length (filter (λ row. nat_lt 0 row.frequency) (lines_of rows));
}

-- ---- the periodic timetable

-- a time that is not there
abbrev pub no_time : PeriodicTime
no_time = record { event = 0; time = 0 }

-- the time of the event of an id
abbrev pub time_at : List PeriodicTime → ℕ → ℕ
time_at times id = (get_or times (event_index id) no_time).time

-- the minutes that an activity takes: its tension
abbrev pub minutes_of : ℕ → List PeriodicTime → PeriodicActivity → ℕ
minutes_of period times activity =
    unsigned_abs
    (tension period (pos activity.lower) (time_at times activity.from) (time_at times activity.to))

-- the minutes that all activities of a kind take
abbrev pub minutes_with : ℕ → List PeriodicTime → List PeriodicActivity → PeriodicKind → ℕ
minutes_with period times activities kind =
    sum_by (minutes_of period times) (filter (λ activity. same_kind activity.kind kind) activities)

-- how many events and activities there are, and the minutes of drives, waits and changes
unfoldable pub periodic_values : ℕ → List PeriodicEvent → List PeriodicActivity → List PeriodicTime
    → PeriodicValues
periodic_values period events activities times = record {
  events = length events;
  activities = length activities;
  drive = minutes_with period times activities kind.Drive;
  wait = minutes_with period times activities kind.Wait;
  change = minutes_with period times activities kind.Change;
}

-- ---- the day

-- how many vehicles there are: different numbers of vehicles
abbrev pub vehicle_count : List ScheduleRow → ℕ
vehicle_count schedule = length (firsts (λ row. pos row.vehicle) schedule)

-- the minutes of a row, from its start to its end, and those of all empty rides
abbrev pub minutes_of_row : ScheduleRow → ℕ
minutes_of_row row = row.run.end.time - row.run.start.time

abbrev pub empty_minutes : List ScheduleRow → ℕ
empty_minutes schedule = sum_by minutes_of_row (filter is_empty_row schedule)

-- how many minutes an event is later than planned, 0 where it is not late
abbrev pub minutes_late : ExpandedEvent × ℕ → ℕ
minutes_late timed = timed.1 - timed.0.time

-- the greatest delay of an event
abbrev pub greatest_delay : List ExpandedEvent → List ℕ → ℕ
greatest_delay events times = latest 0 (map minutes_late (zip events times))

-- the times of events by their rows, in the order of the events
abbrev pub times_of : List DisposedTime → List ℕ
times_of rows = map (λ row. row.time) rows

-- what the day is about: vehicles and their empty rides, and how late it is; a change is missed by
-- its least minutes, whatever delays it has
unfoldable pub day_values : List ExpandedEvent → List ExpandedActivity → List ScheduleRow
    → List DisposedTime → DayValues
day_values events activities schedule disposed = record {
  vehicles = vehicle_count schedule;
  empty_minutes = empty_minutes schedule;
  delay = delay_at events (times_of disposed);
  greatest = greatest_delay events (times_of disposed);
  missed = missed_at (activities_of true [] activities) (times_of disposed);
}

-- ---- all values

-- the cost of the vehicle schedule in millionths, by the costs of a vehicle and of a minute
abbrev pub schedule_cost : ℕ → ℕ → DayValues → ℕ
schedule_cost by_vehicle by_minute day = by_vehicle * day.vehicles + by_minute * day.empty_minutes

-- so many units in millionths
abbrev pub units : ℤ → ℤ
units number = number *ℤ pos 1000000

-- the measures in their order
abbrev pub measures : List Measure
measures =
    measure.LineCost ∷ measure.RunningLines ∷ measure.PeriodicEvents ∷ measure.PeriodicActivities
    ∷ measure.DriveMinutes ∷ measure.WaitMinutes ∷ measure.ChangeMinutes ∷ measure.Trips
    ∷ measure.Vehicles ∷ measure.EmptyMinutes ∷ measure.ScheduleCost ∷ measure.TotalDelay
    ∷ measure.GreatestDelay ∷ measure.MissedChanges ∷ []

-- the name of a measure
abbrev pub measure_name : Measure → List ℕ
measure_name measure.LineCost = codes "lc_cost"
measure_name measure.RunningLines = codes "lc_lines"
measure_name measure.PeriodicEvents = codes "ean_events"
measure_name measure.PeriodicActivities = codes "ean_activities"
measure_name measure.DriveMinutes = codes "tim_drive_time"
measure_name measure.WaitMinutes = codes "tim_wait_time"
measure_name measure.ChangeMinutes = codes "tim_change_time"
measure_name measure.Trips = codes "ro_trips"
measure_name measure.Vehicles = codes "vs_vehicles"
measure_name measure.EmptyMinutes = codes "vs_empty_minutes"
measure_name measure.ScheduleCost = codes "vs_cost"
measure_name measure.TotalDelay = codes "dm_total_delay"
measure_name measure.GreatestDelay = codes "dm_max_delay"
measure_name measure.MissedChanges = codes "dm_missed_changes"

-- its value in millionths
abbrev pub value_of : Statistic → Measure → ℤ
value_of all measure.LineCost = pos all.lines.cost
value_of all measure.RunningLines = units (pos all.lines.running)
value_of all measure.PeriodicEvents = units (pos all.periodic.events)
value_of all measure.PeriodicActivities = units (pos all.periodic.activities)
value_of all measure.DriveMinutes = units (pos all.periodic.drive)
value_of all measure.WaitMinutes = units (pos all.periodic.wait)
value_of all measure.ChangeMinutes = units (pos all.periodic.change)
value_of all measure.Trips = units (pos all.trips)
value_of all measure.Vehicles = units (pos all.day.vehicles)
value_of all measure.EmptyMinutes = units (pos all.day.empty_minutes)
value_of all measure.ScheduleCost = pos all.schedule_cost
value_of all measure.TotalDelay = units all.day.delay
value_of all measure.GreatestDelay = units (pos all.day.greatest)
value_of all measure.MissedChanges = units (pos all.day.missed)
