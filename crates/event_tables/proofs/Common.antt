-- What proofs of the crates above cite of this one, passed on from one place. Declares nothing.
pub use Rattle.event_tables.specs.Cells.{AreSmall, delay_cells, disposed_time, disposed_time_cells}
pub use Rattle.event_tables.specs.Cells.{expanded_activity, expanded_activity_cells, expanded_event}
pub use Rattle.event_tables.specs.Cells.{expanded_event_cells, number_in, periodic_activity}
pub use Rattle.event_tables.specs.Cells.{periodic_activity_cells, periodic_event}
pub use Rattle.event_tables.specs.Cells.{periodic_event_cells, periodic_time, periodic_time_cells}
pub use Rattle.event_tables.specs.Cells.{schedule_cells, schedule_row, trip, trip_cells}
pub use Rattle.event_tables.specs.Delays.{AreDelays, activity_delay_input, event_delay_input}
pub use Rattle.event_tables.specs.DisposedTimes.{AreDisposedTimes, disposed_time_input}
pub use Rattle.event_tables.specs.DisposedTimes.{disposed_time_rules}
pub use Rattle.event_tables.specs.ExpandedFiles.{AreExpandedActivities, AreExpandedEvents}
pub use Rattle.event_tables.specs.ExpandedFiles.{IsExpandedActivity, expanded_activity_ids}
pub use Rattle.event_tables.specs.ExpandedFiles.{expanded_activity_input, expanded_event_ids}
pub use Rattle.event_tables.specs.ExpandedFiles.{expanded_event_input, forward, no_sync}
pub use Rattle.event_tables.specs.ForwardOrder.{both_pass, event_with, goes_forward, stands_before}
pub use Rattle.event_tables.specs.ForwardRanks.{forward_rank}
pub use Rattle.event_tables.specs.Headers.{disposed_time_header, expanded_activity_header}
pub use Rattle.event_tables.specs.Headers.{expanded_event_header, periodic_activity_header}
pub use Rattle.event_tables.specs.Headers.{periodic_event_header, periodic_time_header}
pub use Rattle.event_tables.specs.Headers.{schedule_header, trip_header}
pub use Rattle.event_tables.specs.Kinds.{event_kind_at, event_kind_place}
pub use Rattle.event_tables.specs.Kinds.{is_arrival, is_empty, is_sync}
pub use Rattle.event_tables.specs.Kinds.{same_direction}
pub use Rattle.event_tables.specs.PeriodicFiles.{ArePeriodicActivities, ArePeriodicTimes}
pub use Rattle.event_tables.specs.PeriodicFiles.{IsPeriodicActivity, periodic_activity_input}
pub use Rattle.event_tables.specs.PeriodicFiles.{periodic_event_ids, periodic_event_input}
pub use Rattle.event_tables.specs.PeriodicFiles.{periodic_time_input, periodic_time_rules}
pub use Rattle.event_tables.specs.PeriodicRuns.{before_runs, is_next, joins, neighbours, runs_of}
pub use Rattle.event_tables.specs.PeriodicRuns.{same_run}
pub use Rattle.event_tables.specs.Places.{AreNumbered, IsOneOf, bounds_in_order, is_none_of}
pub use Rattle.event_tables.specs.Places.{known_ends}
pub use Rattle.event_tables.specs.RunRules.{KeepRunRules, breaks, broken_events, broken_in}
pub use Rattle.event_tables.specs.RunRules.{drives_at_once, goes_between, is_placed, is_stray}
pub use Rattle.event_tables.specs.RunRules.{lacks_way, leads, same_kind, stray_activities}
pub use Rattle.event_tables.specs.RunRules.{unjoined_events, unjoined_in, way_on}
pub use Rattle.event_tables.specs.Schedules.{AreScheduleRows, IsScheduleRow, ends_early, goes_back}
pub use Rattle.event_tables.specs.Schedules.{has_room, is_empty_row, is_trip_row, lacks_room}
pub use Rattle.event_tables.specs.Schedules.{schedule_input, schedule_rules}
pub use Rattle.event_tables.specs.Trips.{is_stop, lacks_stop, trip_input, trip_rules}
pub use Rattle.event_tables.proofs.CellFacts.{in_column, small_cells}
pub use Rattle.event_tables.proofs.CellsBack.{expanded_activity_same, expanded_event_same}
pub use Rattle.event_tables.proofs.CellsBack.{periodic_activity_same, periodic_event_same}
pub use Rattle.event_tables.proofs.CellsBack.{schedule_row_same, trip_same}
pub use Rattle.event_tables.proofs.Numbering.{find_numbered, none_of_places, some_missing}
pub use Rattle.event_tables.proofs.PlacesKept.{is_known, places_keep}
pub use Rattle.event_tables.proofs.RanksRise.{at, at_places, id_at, rank_rises}
pub use Rattle.event_tables.proofs.SoundFiles.{expanded_activities_sound, expanded_events_sound}
pub use Rattle.event_tables.proofs.SoundFiles.{periodic_activities_sound, periodic_events_sound}
pub use Rattle.event_tables.proofs.SoundTimes.{disposed_times_sound, periodic_times_sound}
pub use Rattle.event_tables.proofs.SoundTrips.{delays_sound, schedule_rows_sound, trips_sound}
pub use Rattle.event_tables.proofs.WrittenRecords.{file_back, reads_as, records_back, rows_inside}
pub use Rattle.event_tables.proofs.WrittenRecords.{text_as}
