-- The stage that rolls a timetable out over a day.
use Rattle.std.specs.Prelude.{ℕ, ◌-◌, List, [], ◌∷◌, ◌++◌, length, map, codes, Result}
use Rattle.tables.specs.declared.column.ColumnKind.{ColumnKind}
use Rattle.tables.specs.declared.counted.Counted.TheVariants as counted
use Rattle.tables.specs.declared.file_id.FileId.{FileId}
use Rattle.tables.specs.declared.file_id.FileId.TheVariants as file
use Rattle.giv_files.specs.declared.key.Key.TheVariants as key
use Rattle.giv_files.specs.declared.made.Made.{Made}
use Rattle.tables.specs.declared.refusal.Refusal.{Refusal}
use Rattle.tables.specs.declared.refusal.Refusal.TheVariants as refusal
use Rattle.tables.specs.declared.row_why.RowWhy.{RowWhy}
use Rattle.tables.specs.declared.row_why.RowWhy.TheVariants as why
use Rattle.giv_files.specs.declared.stage.Stage.TheVariants as stage
use Rattle.tables.specs.Columns.{events_p_columns, activities_p_columns, events_x_columns, activities_x_columns, trips_columns}
use Rattle.tables.specs.Inputs.{Input, input_faults, limit_faults, or_else, records_of, row_limit}
use Rattle.tables.specs.Reading.{table_of}
use Rattle.giv_files.specs.ReportLines.{count_text, report_line}
use Rattle.giv_files.specs.Settings.{BundleParts, amount}
use Rattle.giv_files.specs.StageCalls.{input_text, unless_fault}
use Rattle.tables.specs.Tables.{row_number}
use Rattle.event_tables.specs.declared.expanded_activity.ExpandedActivity.{ExpandedActivity}
use Rattle.event_tables.specs.declared.expanded_event.ExpandedEvent.{ExpandedEvent}
use Rattle.event_tables.specs.declared.periodic_time.PeriodicTime.{PeriodicTime}
use Rattle.event_tables.specs.declared.trip.Trip.{Trip}
use Rattle.event_tables.specs.Cells.{expanded_event_cells, expanded_activity_cells, trip_cells}
use Rattle.event_tables.specs.Headers.{expanded_event_header, expanded_activity_header, trip_header}
use Rattle.event_tables.specs.PeriodicFiles.{periodic_event_ids, periodic_time_input}
use Rattle.tables.specs.RowsOfTables.{file_text}
use Rattle.event_tables.specs.RunRules.{broken_events, unjoined_events, stray_activities}
use Rattle.pesp_model.specs.PespTexts.{events_of, activities_of, problem_faults}
use Rattle.roll_out.specs.declared.day.Day.{Day}
use Rattle.roll_out.specs.DayActivities.{day_activities}
use Rattle.roll_out.specs.DayTrips.{TripParts, trips_of, day_events, trip_row}
use Rattle.roll_out.specs.TimedRuns.{TimedParts}

-- the rows of trips
abbrev pub trip_rows : List TripParts → List Trip
trip_rows trips = map trip_row trips

-- what is made of trips and of the activities between their events: their files, and the line of
-- the report
abbrev pub rollout_made : List ExpandedEvent → List ExpandedActivity → List Trip → Made
rollout_made events activities trips = record {
  files = record {
    file = file.EventsX;
    text = file_text expanded_event_header events_x_columns expanded_event_cells events;
  } ∷ record {
    file = file.ActivitiesX;
    text = file_text expanded_activity_header activities_x_columns expanded_activity_cells
        activities;
  } ∷ record {
    file = file.Trips;
    text = file_text trip_header trips_columns trip_cells trips;
  } ∷ [];
  report = report_line stage.Rollout (count_text (length trips) (codes "trips")
      ∷ count_text (length events) (codes "events")
      ∷ count_text (length activities) (codes "activities") ∷ []);
}

-- the period of a bundle, and its day
abbrev pub period_in : BundleParts → ℕ
period_in bundle = amount bundle.settings key.PeriodLength

abbrev pub day_in : BundleParts → Day
day_in bundle = record {
  earliest = amount bundle.settings key.DmEarliestTime;
  latest = amount bundle.settings key.DmLatestTime;
}

-- the file of the times of its events
abbrev pub times_in : BundleParts → Input PeriodicTime
times_in bundle =
    periodic_time_input file.TimesP (period_in bundle)
    (periodic_event_ids (events_of (input_text bundle 0)))

-- the timetable of a bundle, whose inputs are the texts of events, of activities and of times
abbrev pub network_in : BundleParts → TimedParts
network_in bundle = record {
  period = period_in bundle;
  events = events_of (input_text bundle 0);
  activities = activities_of (events_of (input_text bundle 0)) (input_text bundle 1);
  times = records_of (times_in bundle) (input_text bundle 2);
}

-- every fault of the texts of a bundle by the rules of their kinds, in the order of its inputs
abbrev pub file_faults : BundleParts → List Refusal
file_faults bundle = problem_faults (input_text bundle 0) (input_text bundle 1)
    ++ input_faults (times_in bundle) (input_text bundle 2)

-- the faults at the rows of some ids, since ids are places of rows
abbrev pub faults_at : FileId → List ColumnKind → List ℕ → RowWhy → List ℕ → List Refusal
faults_at file columns text why ids =
    map (λ id. refusal.BadRow file (row_number (table_of columns text) (id - 1)) why) ids

-- the faults by the rules of runs: broken runs, events that are not joined, and stray activities
abbrev pub run_faults : BundleParts → List Refusal
run_faults bundle =
    let events = (network_in bundle).events in
    let activities = (network_in bundle).activities in
    faults_at file.EventsP events_p_columns (input_text bundle 0) why.BrokenRun
    (map (λ event. event.id) (broken_events events))
    ++ faults_at file.EventsP events_p_columns (input_text bundle 0) why.Unjoined
    (map (λ event. event.id) (unjoined_events events activities))
    ++ faults_at file.ActivitiesP activities_p_columns (input_text bundle 1) why.StrayActivity
    (map (λ activity. activity.id) (stray_activities events activities))

-- every fault of the texts of a bundle; the rules of runs follow after all files are read
abbrev pub rollout_faults : BundleParts → List Refusal
rollout_faults bundle = or_else (file_faults bundle) (run_faults bundle)

-- the lists to be made that are too long: trips, then events, then activities
abbrev pub too_many : List TripParts → List ExpandedEvent → List ExpandedActivity → List Refusal
too_many trips events activities = limit_faults (row_limit counted.Trips 2000 ∷ []) trips
    ++ limit_faults (row_limit counted.ExpandedEvents 100000 ∷ []) events
    ++ limit_faults (row_limit counted.ExpandedActivities 500000 ∷ []) activities

-- the trips of a bundle, their events, and the activities between these
abbrev pub trips_in : BundleParts → List TripParts
trips_in bundle = trips_of (network_in bundle) (day_in bundle)

abbrev pub events_in : BundleParts → List ExpandedEvent
events_in bundle = day_events (trips_in bundle)

abbrev pub activities_in : BundleParts → List ExpandedActivity
activities_in bundle = day_activities (network_in bundle) (trips_in bundle)

-- what trips over a timetable come to: files, or the first list that is too long
abbrev pub long_lists : TimedParts → List TripParts → List Refusal
long_lists network trips = too_many trips (day_events trips) (day_activities network trips)

abbrev pub made_of : TimedParts → List TripParts → Made
made_of network trips =
    rollout_made (day_events trips) (day_activities network trips) (trip_rows trips)

-- the stage: from settings and input texts to what is made, or the first fault; the lists count
-- where the texts have none
unfoldable pub rollout_stage : BundleParts → Result Made Refusal
rollout_stage bundle =
    unless_fault
    (or_else (rollout_faults bundle) (long_lists (network_in bundle) (trips_in bundle)))
    (made_of (network_in bundle) (trips_in bundle))
