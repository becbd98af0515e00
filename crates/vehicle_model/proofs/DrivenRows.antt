-- Rows have the form that is due exactly where they are the schedule of some vehicles.
use Rattle.plan_num.proofs.Common.{◌≡◌, ℕ, ◌<◌, ◌==◌, not, is_some, cond, Bool, true, false, length}
use Rattle.plan_num.proofs.Common.{Option, Some, None, unwrap_or, refl, ap, sym, ◌∙◌, arith, eq-eqb}
use Rattle.plan_num.proofs.Common.{eqb-true, and_parts, position-Some, none-some}
use Rattle.event_tables.specs.declared.schedule_kind.ScheduleKind.{ScheduleKind}
use Rattle.event_tables.specs.declared.schedule_row.ScheduleRow.{ScheduleRow}
use Rattle.event_tables.specs.declared.trip.Trip.{Trip}
use Rattle.event_tables.specs.declared.trip.TripEnd.{TripEnd}
use Rattle.event_tables.proofs.Common.{is_empty, is_empty_row}
use Rattle.event_tables.specs.declared.schedule_kind.ScheduleKind.TheVariants as kind
use Rattle.vehicle_model.specs.DrivenSchedules.{is_nowhere, at_once, as_told}
use Rattle.vehicle_model.specs.ReadSchedules.{same_end, same_run, trip_in, leaves, takes, goes_to, is_ride}
use Rattle.vehicle_model.specs.Schedules.{trip_of, dead_between, empty_ride, trip_row, empty_row}
use Rattle.vehicle_model.specs.Trips.{TripsParts}
use Rattle.vehicle_model.proofs.Repeated.{end_itself}
use Rattle.plan_num.proofs.Tests.{both_true}

-- ---- rows that have the same cells

end_same : (a b : TripEnd) → same_end a b ≡ true → a ≡ b
end_same a b h = grind arith

run_of : {a b : Trip} → a.start ≡ b.start → a.end ≡ b.end → a.line ≡ b.line → a ≡ b
run_of p q r = λ k. record { start = p k; end = q k; line = r k }

run_same : (a b : Trip) → same_run a b ≡ true → a ≡ b
run_same a b h = grind (arith, and_parts, run_of, end_same, eqb-true)

row_of : {a b : ScheduleRow} → a.circulation ≡ b.circulation → a.vehicle ≡ b.vehicle
    → a.number ≡ b.number → a.kind ≡ b.kind → a.run ≡ b.run → a ≡ b
row_of c v n k r = grind arith

kind_trip : (k : ScheduleKind) → is_empty k ≡ false → k ≡ kind.Trip
kind_trip kind.Trip h = refl
kind_trip kind.Empty h = cc

kind_empty : (k : ScheduleKind) → is_empty k ≡ true → k ≡ kind.Empty
kind_empty kind.Trip h = cc
kind_empty kind.Empty h = refl

module _ (trips : TripsParts) where
  -- ---- the row of a trip

  -- a row that repeats a trip
  pub trip_found : (row : ScheduleRow) (j : ℕ) → trip_in trips row ≡ Some j
      → (j < length trips.trips) × (is_empty_row row ≡ false) × (row.run ≡ trip_of trips j)
  trip_found row j is = grind (arith, none-some, position-Some, run_same)

  pub trip_row_is : (row : ScheduleRow) (j : ℕ) → row.circulation ≡ row.vehicle
      → trip_in trips row ≡ Some j → row ≡ trip_row trips row.vehicle row.number j
  trip_row_is row j same is = grind (arith, trip_found, row_of, kind_trip)

  -- a trip is told as it is
  pub trip_told : (row : ScheduleRow) → is_empty_row row ≡ false → as_told trips row ≡ row
  trip_told row h = grind arith

  -- what is told keeps its kind
  pub told_kind : (row : ScheduleRow) → is_empty_row (as_told trips row) ≡ is_empty_row row
  told_kind row = grind arith

  -- ---- the row of an empty ride

  nowhere_is : (row : ScheduleRow) (i j : ℕ) → is_empty_row row ≡ true
      → row.run.start.stop ≡ (trip_of trips i).end.stop → row.run.end.stop ≡ (trip_of trips j).start.stop
      → is_nowhere trips row ≡ not (is_some (dead_between trips i j))
  nowhere_is row i j empty from to = grind arith

  -- a ride from a trip to another is told as the row between them
  pub ride_told : (row : ScheduleRow) (i j : ℕ) → row.circulation ≡ row.vehicle → is_empty_row row ≡ true
      → is_ride trips i row.run (Some j) ≡ true
      → as_told trips row ≡ empty_row trips row.vehicle row.number i j
  ride_told row i j same empty ride =
      let parts = and_parts (leaves (trip_of trips i) row.run)
      (goes_to (dead_between trips i j) (trip_of trips j) row.run) ride in
      let start : row.run.start ≡ (trip_of trips i).end =
      end_same row.run.start (trip_of trips i).end
      (and_parts (same_end row.run.start (trip_of trips i).end) (row.run.line == 0) parts.0).0 in
      let line : row.run.line ≡ 0 = grind arith in
      let event : row.run.end.event ≡ (trip_of trips j).start.event = grind arith in
      let periodic : row.run.end.periodic ≡ (trip_of trips j).start.periodic = grind arith in
      let stop : row.run.end.stop ≡ (trip_of trips j).start.stop = grind arith in
      by_minutes (dead_between trips i j) refl parts.1 start line event periodic stop
    where
      by_minutes : (dead : Option ℕ) → dead_between trips i j ≡ dead
          → goes_to dead (trip_of trips j) row.run ≡ true
          → row.run.start ≡ (trip_of trips i).end → row.run.line ≡ 0
          → row.run.end.event ≡ (trip_of trips j).start.event
          → row.run.end.periodic ≡ (trip_of trips j).start.periodic
          → row.run.end.stop ≡ (trip_of trips j).start.stop
          → as_told trips row ≡ empty_row trips row.vehicle row.number i j
      by_minutes None dead goes start line event periodic stop = grind (
        arith,
        nowhere_is,
        is_some,
        unwrap_or,
        row_of,
        kind_empty,
        run_of,
      )
      by_minutes (Some minutes) dead goes start line event periodic stop = grind (
        arith,
        nowhere_is,
        is_some,
        unwrap_or,
        row_of,
        kind_empty,
        run_of,
      )

  -- and what is told so is such a ride
  pub record IsRideRow (row : ScheduleRow) (vehicle number i j : ℕ) : Type 0 where
    pub empty : is_empty_row row ≡ true
    pub circulation_is : row.circulation ≡ vehicle
    pub vehicle_is : row.vehicle ≡ vehicle
    pub number_is : row.number ≡ number
    pub ride : is_ride trips i row.run (Some j) ≡ true

  takes_any : (dead : Option ℕ) (ride : Trip) → not (is_some dead) ≡ true → takes dead ride ≡ true
  takes_any None ride h = refl
  takes_any (Some minutes) ride h = cc

  made_ride : (i j : ℕ) → is_ride trips i
      (empty_ride (trip_of trips i) (trip_of trips j) (unwrap_or (dead_between trips i j) 0)) (Some j) ≡ true
  made_ride i j = both_true
      {a = leaves (trip_of trips i)
      (empty_ride (trip_of trips i) (trip_of trips j) (unwrap_or (dead_between trips i j) 0))}
      (both_true (end_itself (trip_of trips i).end) refl) goes
    where
      goes : goes_to (dead_between trips i j) (trip_of trips j)
          (empty_ride (trip_of trips i) (trip_of trips j) (unwrap_or (dead_between trips i j) 0)) ≡ true
      goes = grind arith

  pub told_ride : (row : ScheduleRow) (vehicle number i j : ℕ)
      → as_told trips row ≡ empty_row trips vehicle number i j → IsRideRow row vehicle number i j
  told_ride row vehicle number i j told =
      split (is_nowhere trips row) refl told (sym (told_kind row) ∙ ap is_empty_row told)
    where
      split : (b : Bool) → is_nowhere trips row ≡ b
          → cond b (record {
            circulation = row.circulation;
            vehicle = row.vehicle;
            number = row.number;
            kind = row.kind;
            run = at_once row.run;
          }) row ≡ empty_row trips vehicle number i j
          → is_empty_row row ≡ true → IsRideRow row vehicle number i j
      split true nowhere is empty = grind (
        arith,
        is_some,
        nowhere_is,
        both_true,
        end_itself,
        eq-eqb,
        takes_any,
      )
      split false nowhere is empty = grind (arith, made_ride)
