-- What is right about the files of a day that are made.
use Rattle.std.specs.Prelude.{ℕ, ℤ, ◌≡◌, true, List, [], ◌∷◌, All, Option, Some, None, ⊤}
use Rattle.tables.specs.declared.file_id.FileId.TheVariants as file
use Rattle.giv_files.specs.declared.made.Made.{Made}
use Rattle.giv_files.specs.declared.made.MadeFile.{MadeFile}
use Rattle.tables.specs.Columns.{events_x_columns, activities_x_columns, trips_columns}
use Rattle.tables.specs.Inputs.{input_faults, records_of}
use Rattle.giv_files.specs.Settings.{BundleParts}
use Rattle.event_tables.specs.declared.event_kind.EventKind.{EventKind}
use Rattle.event_tables.specs.declared.event_kind.EventKind.TheVariants as kind
use Rattle.event_tables.specs.declared.expanded_event.ExpandedEvent.{ExpandedEvent}
use Rattle.event_tables.specs.declared.periodic_event.PeriodicEvent.{PeriodicEvent}
use Rattle.event_tables.specs.declared.trip.Trip.{Trip}
use Rattle.event_tables.specs.declared.trip.TripEnd.{TripEnd}
use Rattle.event_tables.specs.Cells.{expanded_event, expanded_activity, trip}
use Rattle.event_tables.specs.ExpandedFiles.{expanded_event_input, expanded_activity_input}
use Rattle.event_tables.specs.ForwardOrder.{event_with}
use Rattle.tables.specs.RowsOfTables.{ReadsAs}
use Rattle.event_tables.specs.Trips.{is_stop, trip_input}
use Rattle.roll_out.specs.DayActivities.{day_changes}
use Rattle.roll_out.specs.DayInWords.{AreChangesOf, AreTripsOf}
use Rattle.roll_out.specs.RolloutStage.{network_in, day_in, trips_in, events_in, activities_in, rollout_faults, trip_rows}

-- the periodic events are at stops, where these are known
abbrev pub AtStops : Option (List ℤ) → List PeriodicEvent → Type 0
AtStops None events = ⊤
AtStops (Some stops) events = All (λ event. is_stop stops event.stop ≡ true) events

-- an end of a trip is an event of a day, of a kind: it has its id, its periodic event, its stop and
-- its time
pub record IsEndAt (events : List ExpandedEvent) (kind : EventKind) (end : TripEnd) : Type 0 where
  pub event : ExpandedEvent
  pub there : event_with events end.event ≡ Some event
  pub is : event.kind ≡ kind
  pub periodic : event.periodic ≡ end.periodic
  pub stop : event.stop ≡ end.stop
  pub time : event.time ≡ end.time

-- a trip of a day starts with one of its departures and ends with one of its arrivals
pub record IsTripOver (events : List ExpandedEvent) (trip : Trip) : Type 0 where
  pub start : IsEndAt events kind.Departure trip.start
  pub end : IsEndAt events kind.Arrival trip.end

-- The files of a day are accepted by the rules of their kinds: events are numbered in their order;
-- activities go forward between them, with bounds in order, and none is a sync; trips have start
-- events of their own, end after they start, and are at stops wherever the periodic events are.
-- Trips start with departures and end with arrivals, which are among the events.
pub record RolloutIsAccepted (periodic : List PeriodicEvent)
    (events activities trips : List ℕ) : Type 0 where
  pub events_fine : input_faults expanded_event_input events ≡ []
  pub activities_fine : input_faults
      (expanded_activity_input (records_of expanded_event_input events)) activities ≡ []
  pub trips_fine : (stops : Option (List ℤ)) → AtStops stops periodic
      → input_faults (trip_input stops) trips ≡ []
  pub ends_fine : All (IsTripOver (records_of expanded_event_input events))
      (records_of (trip_input None) trips)

-- The files that are made are right: the inputs have no fault, and there are three files. Read
-- again,
-- they have the events of the trips of the day over the inputs, the activities between these, and
-- the trips, and no fault by the rules of their kinds. The trips are those of each run at each of
-- its
-- starts, and the changes all those between their events.
pub record RolloutFilesAreRight (bundle : BundleParts) (files : List MadeFile) : Type 0 where
  pub inputs : rollout_faults bundle ≡ []
  pub events : List ℕ
  pub activities : List ℕ
  pub trips : List ℕ
  pub three : files ≡ record { file = file.EventsX; text = events }
      ∷ record { file = file.ActivitiesX; text = activities }
      ∷ record { file = file.Trips; text = trips } ∷ []
  pub reads_events : ReadsAs events_x_columns expanded_event (events_in bundle) events
  pub reads_activities : ReadsAs activities_x_columns expanded_activity (activities_in bundle)
      activities
  pub reads_trips : ReadsAs trips_columns trip (trip_rows (trips_in bundle)) trips
  pub all_trips : AreTripsOf (network_in bundle) (day_in bundle) (trips_in bundle)
  pub all_changes : AreChangesOf (network_in bundle) (events_in bundle)
      (day_changes (network_in bundle) (events_in bundle))
  pub accepted : RolloutIsAccepted (network_in bundle).events events activities trips

-- what is made is right
abbrev pub RolloutIsRight : BundleParts → Made → Type 0
RolloutIsRight bundle made = RolloutFilesAreRight bundle made.files
