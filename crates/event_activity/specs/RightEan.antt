-- What is right about the periodic events and activities that are made.
use Rattle.std.specs.Prelude.{◌≡◌, ℕ, List, [], ◌∷◌, map, unsigned_abs, All, Contains}
use Rattle.tables.specs.declared.file_id.FileId.TheVariants as file
use Rattle.giv_files.specs.declared.made.Made.{Made}
use Rattle.giv_files.specs.declared.made.MadeFile.{MadeFile}
use Rattle.tables.specs.Columns.{events_p_columns, activities_p_columns}
use Rattle.tables.specs.Inputs.{input_faults, records_of}
use Rattle.giv_files.specs.Settings.{BundleParts}
use Rattle.event_tables.specs.declared.periodic_activity.PeriodicActivity.{PeriodicActivity}
use Rattle.event_tables.specs.declared.periodic_event.PeriodicEvent.{PeriodicEvent}
use Rattle.event_tables.specs.declared.periodic_kind.PeriodicKind.TheVariants as kinds
use Rattle.event_tables.specs.Cells.{periodic_event, periodic_activity}
use Rattle.event_tables.specs.PeriodicFiles.{periodic_event_input, periodic_activity_input, periodic_event_ids}
use Rattle.tables.specs.RowsOfTables.{ReadsAs}
use Rattle.event_tables.specs.RunRules.{KeepRunRules}
use Rattle.event_activity.specs.ActivitiesOfRuns.{AreActivitiesOf, IsDriveOver}
use Rattle.event_activity.specs.EanStage.{network_in, lines_in, events_in, activities_in, ean_faults, rows_of}
use Rattle.event_activity.specs.EventsOfRuns.{AreEventsOf}

-- the events of a text, and the activities of one between the events of another
abbrev pub events_of : List ℕ → List PeriodicEvent
events_of events = records_of periodic_event_input events

abbrev pub activities_of : List ℕ → List ℕ → List PeriodicActivity
activities_of events activities =
    records_of (periodic_activity_input (periodic_event_ids (events_of events))) activities

-- the files of events and of activities are accepted by the rules of their kinds, where the
-- activities are between the events of the other file, and by the rules of runs
pub record EanIsAccepted (events activities : List ℕ) : Type 0 where
  pub events_fine : input_faults periodic_event_input events ≡ []
  pub activities_fine : input_faults
      (periodic_activity_input (periodic_event_ids (events_of events))) activities ≡ []
  pub runs_fine : KeepRunRules (events_of events) (activities_of events activities)

-- The events and activities over the inputs are those of a periodic network: the events are those
-- of all runs of the lines, each at a stop, the activities are those between the events, and each
-- drive goes over an edge.
pub record IsPeriodicNetwork (bundle : BundleParts) : Type 0 where
  pub all_events : AreEventsOf (network_in bundle.inputs) (lines_in bundle) (events_in bundle)
  pub at_stops : All (λ event. Contains (map unsigned_abs (network_in bundle.inputs).stops) event.row.stop)
      (events_in bundle)
  pub all_activities : AreActivitiesOf bundle.settings (events_in bundle) (activities_in bundle)
  pub over_edges : (row : PeriodicActivity) → Contains (activities_in bundle) row
      → row.kind ≡ kinds.Drive → IsDriveOver (network_in bundle.inputs) (events_in bundle) row

-- The files that are made are right: the inputs have no fault, and there are two files. Read again,
-- they have the events and the activities of the line concept over the inputs, which are those of a
-- periodic network, and no fault by the rules of their kinds.
pub record EanFilesAreRight (bundle : BundleParts) (files : List MadeFile) : Type 0 where
  pub inputs : ean_faults bundle ≡ []
  pub events : List ℕ
  pub activities : List ℕ
  pub both : files ≡ record { file = file.EventsP; text = events }
      ∷ record { file = file.ActivitiesP; text = activities } ∷ []
  pub reads_events : ReadsAs events_p_columns periodic_event (rows_of (events_in bundle)) events
  pub reads_activities : ReadsAs activities_p_columns periodic_activity (activities_in bundle)
      activities
  pub network : IsPeriodicNetwork bundle
  pub accepted : EanIsAccepted events activities

-- what is made is right
abbrev pub EanIsRight : BundleParts → Made → Type 0
EanIsRight bundle made = EanFilesAreRight bundle made.files
