-- The stage of the statistic.
use Rattle.std.specs.Prelude.{ℕ, List, [], ◌∷◌, ◌++◌, length, codes, None, Result}
use Rattle.std.specs.List.{flat_map}
use Rattle.plan_num.specs.Print.{fixed_text}
use Rattle.tables.specs.declared.file_id.FileId.TheVariants as file
use Rattle.giv_files.specs.declared.key.Key.TheVariants as key
use Rattle.giv_files.specs.declared.made.Made.{Made}
use Rattle.tables.specs.declared.refusal.Refusal.{Refusal}
use Rattle.tables.specs.Inputs.{input_faults, records_of}
use Rattle.giv_files.specs.Settings.{BundleParts, amount}
use Rattle.giv_files.specs.StageCalls.{input_text, unless_fault}
use Rattle.event_tables.specs.declared.expanded_event.ExpandedEvent.{ExpandedEvent}
use Rattle.event_tables.specs.declared.periodic_activity.PeriodicActivity.{PeriodicActivity}
use Rattle.event_tables.specs.declared.periodic_event.PeriodicEvent.{PeriodicEvent}
use Rattle.event_tables.specs.DisposedTimes.{disposed_time_input}
use Rattle.event_tables.specs.ExpandedFiles.{expanded_event_input, expanded_activity_input, expanded_event_ids}
use Rattle.event_tables.specs.PeriodicFiles.{periodic_event_input, periodic_activity_input, periodic_time_input}
use Rattle.event_tables.specs.PeriodicFiles.{periodic_event_ids}
use Rattle.event_tables.specs.Schedules.{schedule_input}
use Rattle.event_tables.specs.Trips.{trip_input}
use Rattle.evaluators.specs.declared.day_values.DayValues.{DayValues}
use Rattle.evaluators.specs.declared.line_values.LineValues.{LineValues}
use Rattle.evaluators.specs.declared.measure.Measure.{Measure}
use Rattle.evaluators.specs.declared.periodic_values.PeriodicValues.{PeriodicValues}
use Rattle.evaluators.specs.declared.rows.CostRow.{CostRow}
use Rattle.evaluators.specs.declared.statistic.Statistic.{Statistic}
use Rattle.evaluators.specs.Statistic.{day_values, line_values, measure_name, measures, periodic_values, schedule_cost}
use Rattle.evaluators.specs.Statistic.{value_of}
use Rattle.evaluators.specs.StatisticInputs.{concept_input, cost_input}

-- ---- the texts of costs and of the line concept

abbrev pub costs_of : List ℕ → List CostRow
costs_of text = records_of cost_input text

-- their faults, in order
abbrev pub line_faults : List ℕ → List ℕ → List Refusal
line_faults costs concept =
    input_faults cost_input costs ++ input_faults (concept_input (costs_of costs)) concept

-- their values
abbrev pub lines_in : List ℕ → List ℕ → LineValues
lines_in costs concept =
    line_values (costs_of costs) (records_of (concept_input (costs_of costs)) concept)

-- ---- the texts of periodic events, activities and times

abbrev pub periodic_events_of : List ℕ → List PeriodicEvent
periodic_events_of text = records_of periodic_event_input text

abbrev pub periodic_activities_of : List PeriodicEvent → List ℕ → List PeriodicActivity
periodic_activities_of events text =
    records_of (periodic_activity_input (periodic_event_ids events)) text

-- faults of activities and times over some events
abbrev pub faults_between : ℕ → List PeriodicEvent → List ℕ → List ℕ → List Refusal
faults_between period events activities times =
    input_faults (periodic_activity_input (periodic_event_ids events)) activities
    ++ input_faults (periodic_time_input file.TimesP period (periodic_event_ids events)) times

-- all their faults, in order
abbrev pub periodic_faults : ℕ → List ℕ → List ℕ → List ℕ → List Refusal
periodic_faults period events activities times =
    input_faults periodic_event_input events
    ++ faults_between period (periodic_events_of events) activities times

-- values of activities and times over some events
abbrev pub values_between : ℕ → List PeriodicEvent → List ℕ → List ℕ → PeriodicValues
values_between period events activities times =
    periodic_values period events (periodic_activities_of events activities)
    (records_of (periodic_time_input file.TimesP period (periodic_event_ids events)) times)

-- their values
abbrev pub periodic_in : ℕ → List ℕ → List ℕ → List ℕ → PeriodicValues
periodic_in period events activities times =
    values_between period (periodic_events_of events) activities times

-- ---- the texts of a day: expanded events and activities, a vehicle schedule and disposed times

abbrev pub events_of : List ℕ → List ExpandedEvent
events_of text = records_of expanded_event_input text

-- faults of the other three over some events
abbrev pub faults_over : List ExpandedEvent → List ℕ → List ℕ → List ℕ → List Refusal
faults_over events activities schedule disposed =
    input_faults (expanded_activity_input events) activities
    ++ (input_faults (schedule_input events) schedule
    ++ input_faults (disposed_time_input (expanded_event_ids events)) disposed)

-- all their faults, in order
abbrev pub day_faults : List ℕ → List ℕ → List ℕ → List ℕ → List Refusal
day_faults events activities schedule disposed =
    input_faults expanded_event_input events
    ++ faults_over (events_of events) activities schedule disposed

-- values of the other three over some events
abbrev pub values_over : List ExpandedEvent → List ℕ → List ℕ → List ℕ → DayValues
values_over events activities schedule disposed =
    day_values events (records_of (expanded_activity_input events) activities)
    (records_of (schedule_input events) schedule)
    (records_of (disposed_time_input (expanded_event_ids events)) disposed)

-- their values
abbrev pub day_in : List ℕ → List ℕ → List ℕ → List ℕ → DayValues
day_in events activities schedule disposed =
    values_over (events_of events) activities schedule disposed

-- ---- the stage

-- the minutes of a period
abbrev pub period_in : BundleParts → ℕ
period_in bundle = amount bundle.settings key.PeriodLength

-- the faults of the parts of a bundle: lines, the periodic timetable, trips, the day
abbrev pub line_part : BundleParts → List Refusal
line_part bundle = line_faults (input_text bundle 0) (input_text bundle 1)

abbrev pub periodic_part : BundleParts → List Refusal
periodic_part bundle =
    periodic_faults (period_in bundle) (input_text bundle 2) (input_text bundle 3)
    (input_text bundle 4)

abbrev pub trip_part : BundleParts → List Refusal
trip_part bundle = input_faults (trip_input None) (input_text bundle 5)

abbrev pub day_part : BundleParts → List Refusal
day_part bundle =
    day_faults (input_text bundle 6) (input_text bundle 7) (input_text bundle 8)
    (input_text bundle 9)

-- every fault of the ten texts of a bundle, in the order of its inputs
unfoldable pub statistic_faults : BundleParts → List Refusal
statistic_faults bundle =
    line_part bundle ++ (periodic_part bundle ++ (trip_part bundle ++ day_part bundle))

-- the values of the day of a bundle
abbrev pub bundle_day : BundleParts → DayValues
bundle_day bundle =
    day_in (input_text bundle 6) (input_text bundle 7) (input_text bundle 8) (input_text bundle 9)

-- the statistic of the ten texts of a bundle
unfoldable pub statistic_in : BundleParts → Statistic
statistic_in bundle = record {
  lines = lines_in (input_text bundle 0) (input_text bundle 1);
  periodic =
      periodic_in (period_in bundle) (input_text bundle 2) (input_text bundle 3)
      (input_text bundle 4);
  trips = length (records_of (trip_input None) (input_text bundle 5));
  day = bundle_day bundle;
  schedule_cost =
      schedule_cost (amount bundle.settings key.VsVehicleCosts)
      (amount bundle.settings key.VsEmptyCosts) (bundle_day bundle);
}

-- the line of a measure: its name and its value
abbrev pub value_line : Statistic → Measure → List ℕ
value_line all measure =
    measure_name measure ++ codes "; " ++ fixed_text (value_of all measure) ++ 10 ∷ []

-- the text of a statistic, under a header
unfoldable pub statistic_text : Statistic → List ℕ
statistic_text all = codes "# key; value\n" ++ flat_map (value_line all) measures

-- what is made of a statistic
abbrev pub statistic_made : Statistic → Made
statistic_made all = record {
  files = record { file = file.Statistic; text = statistic_text all } ∷ [];
  report = codes "statistic: 14 values";
}

-- the stage: from settings and input texts to what is made, or the first fault
unfoldable pub statistic_stage : BundleParts → Result Made Refusal
statistic_stage bundle =
    unless_fault (statistic_faults bundle) (statistic_made (statistic_in bundle))
