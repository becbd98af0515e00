-- What holds of trips, of delays and of the rows of a schedule, where their texts have no fault.
use Rattle.plan_num.proofs.Common.{arith, ◌≡◌, ℕ, ℤ, pos, Bool, true, false, ◌&&◌, ◌||◌, List, []}
use Rattle.plan_num.proofs.Common.{◌∷◌, length, refl, ap, sym, ◌∙◌, Option, range_with_len}
use Rattle.plan_num.proofs.Common.{ltb-false, or_parts, not-false}
use Rattle.tables.specs.declared.counted.Counted.TheVariants as counted
use Rattle.tables.specs.declared.file_id.FileId.{FileId}
use Rattle.tables.specs.declared.row_why.RowWhy.{RowWhy}
use Rattle.tables.proofs.Common.{schedule_columns, RowRule, row_limit, own_id, input_faults}
use Rattle.tables.proofs.Common.{records_of, broken_whys, table_of, few_rows, rules_sound}
use Rattle.tables.proofs.Common.{limits_sound, parts_sound, table_sound}
use Rattle.event_tables.specs.declared.delay_row.DelayRow.{DelayRow}
use Rattle.event_tables.specs.declared.expanded_event.ExpandedEvent.{ExpandedEvent}
use Rattle.event_tables.specs.declared.schedule_row.ScheduleRow.{ScheduleRow}
use Rattle.event_tables.specs.declared.trip.Trip.{Trip}
use Rattle.event_tables.specs.Cells.{trip_cells, delay_cells, schedule_cells}
use Rattle.event_tables.specs.Delays.{delay_input, is_there, AreDelays}
use Rattle.event_tables.specs.ExpandedFiles.{expanded_event_ids}
use Rattle.event_tables.specs.ForwardOrder.{goes_forward}
use Rattle.event_tables.specs.Places.{known_ends, is_none_of, AreNumbered, IsOneOf}
use Rattle.event_tables.specs.Schedules.{schedule_input, schedule_rules, kind_limit, is_trip_row, is_empty_row}
use Rattle.event_tables.specs.Schedules.{ends_early, lacks_room, goes_back, empty_forward, IsScheduleRow}
use Rattle.event_tables.specs.Schedules.{AreScheduleRows}
use Rattle.event_tables.specs.Trips.{trip_input, trip_rules, own_start, known_stops, takes_time, IsTrip, AreTrips}
use Rattle.event_tables.proofs.CellsBack.{trip_back, delay_row_back, schedule_row_back}
use Rattle.event_tables.proofs.Fitting.{fitting_records, sound_records}
use Rattle.event_tables.proofs.Numbering.{is_place}
use Rattle.event_tables.proofs.OwnRows.{own_among, own_rows}

-- ---- trips

module _ (stops : Option (List ℤ)) (text : List ℕ) (none : input_faults (trip_input stops) text
    ≡ []) where
  trip_sound : (some : List Trip) (row : Trip) → broken_whys (trip_rules stops) some row ≡ []
      → IsTrip stops row
  trip_sound some row kept = grind arith

  pub trips_sound : AreTrips stops (records_of (trip_input stops) text)
  trips_sound = record {
    few = few_rows (trip_input stops) text (row_limit counted.Trips 2000) [] refl none;
    own = own_rows (λ trip. trip.start.event) (trip_input stops) text
        (λ before row kept. own_among
        (λ (trip : Trip). trip.start.event) before row (rules_sound own_start (known_stops stops
        ∷ takes_time ∷ []) before row kept).0) none;
    each = sound_records (trip_input stops) text none (IsTrip stops) trip_sound;
    fit = fitting_records (trip_input stops) text none trip_cells trip_back;
  }

-- ---- delays

module _ (file : FileId) (unknown : RowWhy) (count : ℕ) (text : List ℕ) (none : input_faults
    (delay_input file unknown (range_with_len 1 count)) text ≡ []) where
  pub delays_sound : AreDelays count
      (records_of (delay_input file unknown (range_with_len 1 count)) text)
  delays_sound =
      let ids = range_with_len 1 count in
      let input = delay_input file unknown ids in
      let own : RowRule DelayRow = own_id (λ (row : DelayRow). pos row.id) in
      record {
        own = own_rows (λ row. row.id) input text
            (λ before row kept. own_among
            (λ (at : DelayRow). at.id) before row (rules_sound own [] before row
            (rules_sound (is_there ids unknown) (own ∷ []) before row kept).1).0) none;
        there = sound_records input text none (λ row. IsOneOf count row.id)
            (λ some row kept. is_place count row.id (rules_sound (is_there ids unknown) (own
            ∷ []) some row kept).0);
        fit = fitting_records input text none delay_cells delay_row_back;
      }

-- ---- the rows of a schedule

module _ (events : List ExpandedEvent) (text : List ℕ) (are : AreNumbered
    (λ event. event.id) events) (none : input_faults (schedule_input events) text ≡ []) where
  row_sound : (some : List ScheduleRow) (row : ScheduleRow)
      → broken_whys (schedule_rules events) some row ≡ [] → IsScheduleRow events row
  row_sound some row kept =
      let ids = expanded_event_ids events in
      let count = length events in
      let ends : RowRule ScheduleRow = known_ends ids (λ at. at.run.start.event)
      (λ at. at.run.end.event) in
      let known = rules_sound ends (empty_forward events ∷ []) some row kept in
      let parts = or_parts (is_none_of ids row.run.start.event) (is_none_of ids row.run.end.event) known.0 in
      let whole = (rules_sound (empty_forward events) [] some row known.1).0 in
      let none_of_three = λ (empty : is_empty_row row ≡ true).
      or_parts (ends_early row || lacks_room events row) (goes_back events row) (behind_true _ _ empty whole) in
      let early = λ (empty : is_empty_row row
      ≡ true). or_parts (ends_early row) (lacks_room events row) (none_of_three empty).0 in
      record {
        start = is_place count row.run.start.event
            (ap (λ some. is_none_of some row.run.start.event) (sym are) ∙ parts.0);
        end = is_place count row.run.end.event
            (ap (λ some. is_none_of some row.run.end.event) (sym are) ∙ parts.1);
        in_time = λ empty. ltb-false row.run.end.time row.run.start.time (early empty).0;
        room = λ empty. (early empty).1;
        forward = λ empty. not-false (goes_forward events row.run.start.event row.run.end.event)
            (none_of_three empty).1;
      }
    where
      behind_true : (a b : Bool) → a ≡ true → (a && b) ≡ false → b ≡ false
      behind_true true b is h = h
      behind_true false b is h = cc

  pub schedule_rows_sound : AreScheduleRows events (records_of (schedule_input events) text)
  schedule_rows_sound =
      let input = schedule_input events in
      let rows = records_of input text in
      let few = (table_sound input (table_of schedule_columns text) (parts_sound input text none).1).0 in
      let first = limits_sound (kind_limit is_trip_row) (kind_limit is_empty_row ∷ []) rows few in
      record {
        few_trips = first.0;
        few_empty = (limits_sound (kind_limit is_empty_row) [] rows first.1).0;
        each = sound_records input text none (IsScheduleRow events) row_sound;
        fit = fitting_records input text none schedule_cells schedule_row_back;
      }
