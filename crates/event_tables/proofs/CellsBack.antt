-- Each record is the one of its cells, and cells in the ranges of their columns are those of their record.
use Rattle.plan_num.proofs.Common.{◌≡◌, ℤ, pos, arith, List, get_or, refl, sym}
use Rattle.tables.proofs.Common.{events_p_columns, activities_p_columns, times_p_columns}
use Rattle.tables.proofs.Common.{events_x_columns, activities_x_columns, trips_columns}
use Rattle.tables.proofs.Common.{schedule_columns, delays_columns, disposed_columns, InColumns}
use Rattle.event_tables.specs.declared.disposed_time.DisposedTime.{DisposedTime}
use Rattle.event_tables.specs.declared.expanded_activity.ExpandedActivity.{ExpandedActivity}
use Rattle.event_tables.specs.declared.expanded_event.ExpandedEvent.{ExpandedEvent}
use Rattle.event_tables.specs.declared.periodic_activity.PeriodicActivity.{PeriodicActivity}
use Rattle.event_tables.specs.declared.periodic_event.PeriodicEvent.{PeriodicEvent}
use Rattle.event_tables.specs.declared.periodic_time.PeriodicTime.{PeriodicTime}
use Rattle.event_tables.specs.declared.schedule_row.ScheduleRow.{ScheduleRow}
use Rattle.event_tables.specs.declared.trip.Trip.{Trip}
use Rattle.event_tables.specs.Cells.{periodic_event, periodic_activity, periodic_time, expanded_event}
use Rattle.event_tables.specs.Cells.{expanded_activity, trip, schedule_row, delay_row, disposed_time}
use Rattle.event_tables.specs.Cells.{periodic_event_cells, periodic_activity_cells, periodic_time_cells}
use Rattle.event_tables.specs.Cells.{expanded_event_cells, expanded_activity_cells, trip_cells, schedule_cells}
use Rattle.event_tables.specs.Cells.{delay_cells, disposed_time_cells}
use Rattle.event_tables.proofs.CellFacts.{in_column, listed, cell_back, periodic_kind_back, schedule_kind_back}
use Rattle.event_tables.proofs.CellFacts.{event_kind_same, direction_same, activity_kind_same, periodic_kind_same}
use Rattle.event_tables.proofs.CellFacts.{schedule_kind_same}

pub periodic_event_same : (row : PeriodicEvent) → periodic_event (periodic_event_cells row) ≡ row
periodic_event_same row = rw (event_kind_same row.kind, direction_same row.direction) refl

pub periodic_event_back : (cells : List ℤ) → InColumns events_p_columns cells
    → periodic_event_cells (periodic_event cells) ≡ cells
periodic_event_back cells h = grind arith

pub periodic_activity_same : (row : PeriodicActivity)
    → periodic_activity (periodic_activity_cells row) ≡ row
periodic_activity_same row = rw (periodic_kind_same row.kind) refl

pub periodic_activity_back : (cells : List ℤ) → InColumns activities_p_columns cells
    → periodic_activity_cells (periodic_activity cells) ≡ cells
periodic_activity_back cells h =
    grind (arith, cell_back, periodic_kind_back, get_or, in_column, listed)

pub periodic_time_same : (row : PeriodicTime) → periodic_time (periodic_time_cells row) ≡ row
periodic_time_same row = refl

pub periodic_time_back : (cells : List ℤ) → InColumns times_p_columns cells
    → periodic_time_cells (periodic_time cells) ≡ cells
periodic_time_back cells h = grind arith

pub expanded_event_same : (row : ExpandedEvent) → expanded_event (expanded_event_cells row) ≡ row
expanded_event_same row = rw (event_kind_same row.kind) refl

pub expanded_event_back : (cells : List ℤ) → InColumns events_x_columns cells
    → expanded_event_cells (expanded_event cells) ≡ cells
expanded_event_back cells h = grind arith

pub expanded_activity_same : (row : ExpandedActivity)
    → expanded_activity (expanded_activity_cells row) ≡ row
expanded_activity_same row = rw (activity_kind_same row.kind) refl

pub expanded_activity_back : (cells : List ℤ) → InColumns activities_x_columns cells
    → expanded_activity_cells (expanded_activity cells) ≡ cells
expanded_activity_back cells h = grind arith

pub trip_same : (row : Trip) → trip (trip_cells row) ≡ row
trip_same row = refl

pub trip_back : (cells : List ℤ) → InColumns trips_columns cells → trip_cells (trip cells) ≡ cells
trip_back cells h = grind arith

pub schedule_row_same : (row : ScheduleRow) → schedule_row (schedule_cells row) ≡ row
schedule_row_same row = rw (schedule_kind_same row.kind) refl

pub schedule_row_back : (cells : List ℤ) → InColumns schedule_columns cells
    → schedule_cells (schedule_row cells) ≡ cells
schedule_row_back cells h =
    rw (
      cell_back schedule_columns cells 0 h (omega arith) refl,
      cell_back schedule_columns cells 1 h (omega arith) refl,
      cell_back schedule_columns cells 2 h (omega arith) refl,
      schedule_kind_back (get_or cells 3 (pos 0)) (in_column schedule_columns cells 3 h
          (omega arith)),
      cell_back schedule_columns cells 4 h (omega arith) refl,
      cell_back schedule_columns cells 5 h (omega arith) refl,
      cell_back schedule_columns cells 6 h (omega arith) refl,
      cell_back schedule_columns cells 7 h (omega arith) refl,
      cell_back schedule_columns cells 8 h (omega arith) refl,
      cell_back schedule_columns cells 9 h (omega arith) refl,
      cell_back schedule_columns cells 10 h (omega arith) refl,
      cell_back schedule_columns cells 11 h (omega arith) refl,
      cell_back schedule_columns cells 12 h (omega arith) refl,
    ) (sym (listed schedule_columns cells h))

pub delay_row_back : (cells : List ℤ) → InColumns delays_columns cells
    → delay_cells (delay_row cells) ≡ cells
delay_row_back cells h = grind arith

pub disposed_time_same : (row : DisposedTime) → disposed_time (disposed_time_cells row) ≡ row
disposed_time_same row = refl

pub disposed_time_back : (cells : List ℤ) → InColumns disposed_columns cells
    → disposed_time_cells (disposed_time cells) ≡ cells
disposed_time_back cells h = grind arith
