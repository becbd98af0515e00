-- The stage that makes periodic events and activities.
use Rattle.std.specs.Prelude.{List, [], ◌∷◌, ◌++◌, length, map, codes, Result}
use Rattle.tables.specs.declared.counted.Counted.TheVariants as counted
use Rattle.tables.specs.declared.file_id.FileId.TheVariants as file
use Rattle.giv_files.specs.declared.made.Made.{Made}
use Rattle.tables.specs.declared.refusal.Refusal.{Refusal}
use Rattle.giv_files.specs.declared.stage.Stage.TheVariants as stage
use Rattle.tables.specs.Columns.{events_p_columns, activities_p_columns}
use Rattle.tables.specs.Inputs.{limit_faults, or_else, row_limit}
use Rattle.giv_files.specs.ReportLines.{count_text, report_line}
use Rattle.giv_files.specs.Settings.{BundleParts}
use Rattle.giv_files.specs.StageCalls.{input_text, unless_fault}
use Rattle.event_tables.specs.declared.periodic_activity.PeriodicActivity.{PeriodicActivity}
use Rattle.event_tables.specs.declared.periodic_event.PeriodicEvent.{PeriodicEvent}
use Rattle.event_tables.specs.Cells.{periodic_event_cells, periodic_activity_cells}
use Rattle.event_tables.specs.Headers.{periodic_event_header, periodic_activity_header}
use Rattle.tables.specs.RowsOfTables.{file_text}
use Rattle.event_activity.specs.declared.run_event.RunEvent.{RunEvent}
use Rattle.event_activity.specs.Activities.{concept_activities}
use Rattle.event_activity.specs.Runs.{concept_events}
use Rattle.line_walks.specs.Pools.{LineParts, concept_of, concept_faults}
use Rattle.ptn_network.specs.Networks.{network_faults}
pub use Rattle.ptn_network.specs.Networks.{network_in}

-- the rows of events
abbrev pub rows_of : List RunEvent → List PeriodicEvent
rows_of events = map (λ event. event.row) events

-- what is made of events and activities: their files, and the line of the report
abbrev pub ean_made : List PeriodicEvent → List PeriodicActivity → Made
ean_made events activities = record {
  files = record {
    file = file.EventsP;
    text = file_text periodic_event_header events_p_columns periodic_event_cells events;
  } ∷ record {
    file = file.ActivitiesP;
    text = file_text periodic_activity_header activities_p_columns periodic_activity_cells
        activities;
  } ∷ [];
  report = report_line stage.Ean (count_text (length events) (codes "events")
      ∷ count_text (length activities) (codes "activities") ∷ []);
}

-- the lines of a bundle, whose third input is the text of the line concept
abbrev pub lines_in : BundleParts → List LineParts
lines_in bundle = concept_of (network_in bundle.inputs) (input_text bundle 2)

-- their events, and the activities between these
abbrev pub events_in : BundleParts → List RunEvent
events_in bundle = concept_events (network_in bundle.inputs) (lines_in bundle)

abbrev pub activities_in : BundleParts → List PeriodicActivity
activities_in bundle = concept_activities bundle.settings (events_in bundle)

-- every fault of the texts of a bundle, in the order of its inputs
abbrev pub ean_faults : BundleParts → List Refusal
ean_faults bundle = network_faults (input_text bundle 0) (input_text bundle 1)
    ++ concept_faults (network_in bundle.inputs) (input_text bundle 2)

-- a list of activities that is too long
abbrev pub long_activities : List PeriodicActivity → List Refusal
long_activities activities =
    limit_faults (row_limit counted.PeriodicActivities 200000 ∷ []) activities

-- the lists to be made that are too long, events first
abbrev pub too_many : List RunEvent → List PeriodicActivity → List Refusal
too_many events activities =
    limit_faults (row_limit counted.PeriodicEvents 4000 ∷ []) events ++ long_activities activities

-- the stage: from settings and input texts to what is made, or the first fault; the lists count
-- where the texts have none
unfoldable pub ean_stage : BundleParts → Result Made Refusal
ean_stage bundle =
    unless_fault (or_else (ean_faults bundle) (too_many (events_in bundle) (activities_in bundle)))
    (ean_made (rows_of (events_in bundle)) (activities_in bundle))
