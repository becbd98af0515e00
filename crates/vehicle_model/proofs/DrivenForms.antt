-- Rows have the form that is due exactly where they are the schedule of some vehicles.
use Rattle.plan_num.proofs.Common.{◌≡◌, ℕ, ◌+◌, ◌<◌, ◌==◌, ◌&&◌, ◌||◌, not, cond, Bool, true, false}
use Rattle.plan_num.proofs.Common.{List, [], ◌∷◌, ◌++◌, length, map, slice_get, All, Option, Some}
use Rattle.plan_num.proofs.Common.{None, flat_map, refl, ap, sym, ◌∙◌, subst, arith, inl, inr}
use Rattle.plan_num.proofs.Common.{position, concat, list_all, range_with_len, false≢true, eqb-true}
use Rattle.plan_num.proofs.Common.{and_parts, ne_eqb, cases_Bool, not-true, All-nil, All-cons}
use Rattle.plan_num.proofs.Common.{none-some}
use Rattle.event_tables.specs.declared.schedule_row.ScheduleRow.{ScheduleRow}
use Rattle.event_tables.proofs.Common.{is_trip_row, is_empty_row}
use Rattle.vehicle_model.specs.DrivenSchedules.{as_told}
use Rattle.vehicle_model.specs.ReadSchedules.{Reading, nothing_read, one_more, trip_in}
use Rattle.vehicle_model.specs.ReadSchedules.{last_vehicle, begins, follows_trip}
use Rattle.vehicle_model.specs.ReadSchedules.{follows_empty, is_new, is_ride, leads_to, trip_fits}
use Rattle.vehicle_model.specs.ReadSchedules.{empty_fits, has_form, same_run}
use Rattle.vehicle_model.specs.Schedules.{trip_row, empty_row, rows_behind, rows_from}
use Rattle.vehicle_model.specs.Trips.{TripsParts}
use Rattle.vehicle_model.proofs.DrivenRows.{trip_found, trip_row_is, trip_told, ride_told}
use Rattle.vehicle_model.proofs.PlanRead.{AreFormed}
use Rattle.vehicle_model.proofs.Tours.{has}
use Rattle.plan_num.proofs.Tests.{only_true}

-- each of some trips is there and not among those before it, and with all of them every trip has come
abbrev pub AreFresh : ℕ → List ℕ → List ℕ → Type 0
AreFresh n seen [] = list_all (has seen) (range_with_len 0 n) ≡ true
AreFresh n seen (i ∷ more) = (i < n) × (has seen i ≡ false) × AreFresh n (i ∷ seen) more

-- the links of a vehicle behind a trip, and those of vehicles
abbrev pub links_behind : ℕ → List ℕ → List (ℕ × ℕ)
links_behind i [] = []
links_behind i (j ∷ more) = (i, j) ∷ links_behind j more

abbrev pub vehicle_links : List ℕ → List (ℕ × ℕ)
vehicle_links [] = []
vehicle_links (i ∷ more) = links_behind i more

abbrev pub driven_links : List (List ℕ) → List (ℕ × ℕ)
driven_links vehicles = flat_map vehicle_links vehicles

-- every vehicle has a trip
abbrev pub AreBusy : List (List ℕ) → Type 0
AreBusy vehicles = All (λ driven. 0 < length driven) vehicles

module _ (trips : TripsParts) where
  abbrev n : ℕ
  n = length trips.trips

  -- rows are those of vehicles from a number on
  pub record AreVehicles (vehicle : ℕ) (seen : List ℕ) (rows : List ScheduleRow) : Type 0 where
    pub vehicles : List (List ℕ)
    pub busy : AreBusy vehicles
    pub fresh : AreFresh (length trips.trips) seen (concat vehicles)
    pub told : map (as_told trips) rows ≡ rows_from trips vehicle vehicles

  -- the same behind a trip of a vehicle
  pub record AreRest (vehicle number i : ℕ) (seen : List ℕ) (rows : List ScheduleRow) : Type 0 where
    pub more : List ℕ
    pub vehicles : List (List ℕ)
    pub busy : AreBusy vehicles
    pub fresh : AreFresh (length trips.trips) seen (more ++ concat vehicles)
    pub told : map (as_told trips) rows
        ≡ rows_behind trips vehicle number i more ++ rows_from trips (vehicle + 1) vehicles

  -- ---- from the form of rows to vehicles

  -- a row of a trip that has the form that is due
  record IsDue (read : Reading) (row : ScheduleRow) : Type 0 where
    j : ℕ
    same : row.circulation ≡ row.vehicle
    place : (begins read.before row || follows_empty read.before row) ≡ true
    repeated : trip_in trips row ≡ Some j
    within : j < length trips.trips
    new : has read.seen j ≡ false

  new_is : (has_come : ℕ → Bool) (at : Option ℕ) → is_new has_come at ≡ true
      → (j : ℕ) × ((at ≡ Some j) × (has_come j ≡ false))
  new_is has_come None h = cc
  new_is has_come (Some j) h = (j, (refl, not-true (has_come j) h))

  due : (read : Reading) (row : ScheduleRow) (after : Option ScheduleRow) → is_empty_row row ≡ false
      → has_form trips read row after ≡ true → IsDue read row
  due read row after trip form = grind (arith, and_parts, new_is, eqb-true, trip_found)

  -- a vehicle begins at a row
  begun : (read : Reading) (row : ScheduleRow) (rows : List ScheduleRow) (it : IsDue read row)
      → begins read.before row ≡ true
      → AreRest row.vehicle row.number it.j (it.j ∷ read.seen) rows
      → AreVehicles (last_vehicle read.before + 1) read.seen (row ∷ rows)
  unfolding rows_from
  begun read row rows it first rest =
      let parts = and_parts (row.vehicle == last_vehicle read.before + 1) (row.number == 1) first in
      let vehicle : row.vehicle ≡ last_vehicle read.before + 1 =
      eqb-true row.vehicle (last_vehicle read.before + 1) parts.0 in
      let number : row.number ≡ 1 = eqb-true row.number 1 parts.1 in
      let found = trip_found trips row it.j it.repeated in
      record {
        vehicles = (it.j ∷ rest.more) ∷ rest.vehicles;
        busy = All-cons (λ driven. 0 < length driven) (it.j ∷ rest.more) rest.vehicles (omega arith) rest.busy;
        fresh = (it.within, it.new, rest.fresh);
        told = ap (λ at. at ∷ map (as_told trips) rows) (trip_told trips row found.1)
            ∙ ap (λ at. at ∷ map (as_told trips) rows) (trip_row_is trips row it.j it.same it.repeated)
            ∙ ap (λ at. trip_row trips row.vehicle row.number it.j ∷ at) rest.told
            ∙ ap (λ v. trip_row trips v row.number it.j
            ∷ (rows_behind trips v row.number it.j rest.more ++ rows_from trips (v + 1) rest.vehicles)) vehicle
            ∙ ap (λ k. trip_row trips (last_vehicle read.before + 1) k it.j
            ∷ (rows_behind trips (last_vehicle read.before + 1) k it.j rest.more
            ++ rows_from trips (last_vehicle read.before + 1 + 1) rest.vehicles)) number;
      }

  -- no trip comes in the row of an empty ride
  pub empty_repeats : (row : ScheduleRow) → is_empty_row row ≡ true → trip_in trips row ≡ None
  empty_repeats row empty = ap (λ b. cond b None (position (same_run row.run) trips.trips)) empty

  -- behind a row of a trip
  pub more_is : (read : Reading) (row : ScheduleRow) (j : ℕ) → trip_in trips row ≡ Some j
      → one_more trips read row ≡ record { before = Some row; seen = j ∷ read.seen }
  more_is read row j is = grind arith

  -- behind a row of an empty ride
  pub none_more : (read : Reading) (row : ScheduleRow) → is_empty_row row ≡ true
      → one_more trips read row ≡ record { before = Some row; seen = read.seen }
  none_more read row empty = grind (arith, empty_repeats)

  -- an empty ride and a trip go on with a vehicle
  record GoesOn (before : ScheduleRow) (i : ℕ) (seen : List ℕ) (ride row : ScheduleRow) : Type 0 where
    j : ℕ
    repeated : trip_in trips row ≡ Some j
    kind : is_empty_row row ≡ false
    within : j < length trips.trips
    new : has (i ∷ seen) j ≡ false
    vehicle : row.vehicle ≡ before.vehicle
    number : row.number ≡ before.number + 2
    ridden : as_told trips ride ≡ empty_row trips before.vehicle (before.number + 1) i j
    driven : as_told trips row ≡ trip_row trips before.vehicle (before.number + 2) j

  -- the row of an empty ride that has the form that is due leads to a row
  led : (last : Option ℕ) (row : ScheduleRow) (after : Option ScheduleRow)
      → leads_to trips last row after ≡ true → (next : ScheduleRow) × (after ≡ Some next)
  led None row after h = cc
  led (Some i) row None h = cc
  led (Some i) row (Some next) h = (next, refl)

  rides : (before : ScheduleRow) (i : ℕ) (seen : List ℕ) (ride : ScheduleRow) (after : Option ScheduleRow)
      → is_empty_row ride ≡ true
      → has_form trips (record { before = Some before; seen = i ∷ seen }) ride after ≡ true
      → leads_to trips (Some i) ride after ≡ true
  rides before i seen ride after empty form = grind (arith, and_parts, has)

  goes_on : (before : ScheduleRow) (i : ℕ) (seen : List ℕ) (ride row : ScheduleRow) (after : Option ScheduleRow)
      → is_trip_row before ≡ true → is_empty_row ride ≡ true
      → has_form trips (record { before = Some before; seen = i ∷ seen }) ride (Some row) ≡ true
      → has_form trips (record { before = Some ride; seen = i ∷ seen }) row after ≡ true
      → GoesOn before i seen ride row
  goes_on before i seen ride row after kind empty rides drives =
      let both = and_parts (ride.circulation == ride.vehicle) _ rides in
      let fits : empty_fits trips (Some before) (Some i) ride (Some row) ≡ true =
      sym (ap (λ b. cond b (empty_fits trips (Some before) (Some i) ride (Some row))
      (trip_fits trips (Some before) (has (i ∷ seen)) ride)) empty) ∙ both.1 in
      let parts = and_parts (follows_trip (Some before) ride) _ fits in
      let behind = and_parts (is_trip_row before) _ parts.0 in
      let next_row = and_parts (ride.vehicle == before.vehicle) (ride.number == before.number + 1) behind.1 in
      let ride_vehicle : ride.vehicle ≡ before.vehicle = eqb-true ride.vehicle before.vehicle next_row.0 in
      let ride_number : ride.number ≡ before.number + 1 =
      eqb-true ride.number (before.number + 1) next_row.1 in
      let leads = and_parts ((row.vehicle == ride.vehicle) && is_trip_row row) _ parts.1 in
      let kinds = and_parts (row.vehicle == ride.vehicle) (is_trip_row row) leads.0 in
      let row_vehicle : row.vehicle ≡ ride.vehicle = eqb-true row.vehicle ride.vehicle kinds.0 in
      let trip : is_empty_row row ≡ false = not-true (is_empty_row row) kinds.1 in
      let it = due (record { before = Some ride; seen = i ∷ seen }) row after trip drives in
      let place : follows_empty (Some ride) row ≡ true =
      second (begins (Some ride) row) it.place (not_begun row_vehicle) in
      let next_number = and_parts (is_empty_row ride) _ place in
      let row_number : row.number ≡ ride.number + 1 = eqb-true row.number (ride.number + 1)
      (and_parts (row.vehicle == ride.vehicle) (row.number == ride.number + 1) next_number.1).1 in
      let number : row.number ≡ before.number + 2 = omega (arith, row_number, ride_number) in
      record {
        j = it.j;
        repeated = it.repeated;
        kind = trip;
        within = it.within;
        new = it.new;
        vehicle = row_vehicle ∙ ride_vehicle;
        number = number;
        ridden = ride_told trips ride i it.j (eqb-true ride.circulation ride.vehicle both.0) empty
            (ap (is_ride trips i ride.run) (sym it.repeated) ∙ leads.1)
            ∙ ap (λ v. empty_row trips v ride.number i it.j) ride_vehicle
            ∙ ap (λ k. empty_row trips before.vehicle k i it.j) ride_number;
        driven = trip_told trips row trip ∙ trip_row_is trips row it.j it.same it.repeated
            ∙ ap (λ v. trip_row trips v row.number it.j) (row_vehicle ∙ ride_vehicle)
            ∙ ap (λ k. trip_row trips before.vehicle k it.j) number;
      }
    where
      second : (a : Bool) {b : Bool} → (a || b) ≡ true → a ≡ false → b ≡ true
      second true h e = cc
      second false h e = h

      apart : {v w : ℕ} → v ≡ w → v ≡ w + 1 → ⊥
      apart e f = omega (arith, e, f)

      not_begun : row.vehicle ≡ ride.vehicle → begins (Some ride) row ≡ false
      not_begun e = ap (λ b. b && (row.number == 1)) (ne_eqb row.vehicle (ride.vehicle + 1) (apart e))

  went_on : (before : ScheduleRow) (i : ℕ) (seen : List ℕ) (ride row : ScheduleRow) (rows : List ScheduleRow)
      (it : GoesOn before i seen ride row)
      → AreRest row.vehicle row.number it.j (it.j ∷ i ∷ seen) rows
      → AreRest before.vehicle before.number i (i ∷ seen) (ride ∷ row ∷ rows)
  unfolding rows_behind
  went_on before i seen ride row rows it rest = record {
    more = it.j ∷ rest.more;
    vehicles = rest.vehicles;
    busy = rest.busy;
    fresh = (it.within, it.new, rest.fresh);
    told = grind arith;
  }

  -- a vehicle that ends with a trip
  no_more : (vehicle number i : ℕ) (seen : List ℕ) (rows : List ScheduleRow)
      → AreVehicles (vehicle + 1) seen rows → AreRest vehicle number i seen rows
  unfolding rows_behind
  no_more vehicle number i seen rows are = record {
    more = [];
    vehicles = are.vehicles;
    busy = are.busy;
    fresh = are.fresh;
    told = are.told;
  }

  no_rows : (vehicle : ℕ) (seen : List ℕ) → AreFresh (length trips.trips) seen [] → AreVehicles vehicle seen []
  unfolding rows_from
  no_rows vehicle seen fresh = grind (arith, All-nil)

  -- the place of a row of a trip that is due behind the row of a trip
  begins_there : (before row : ScheduleRow) → is_trip_row before ≡ true
      → (begins (Some before) row || follows_empty (Some before) row) ≡ true → begins (Some before) row ≡ true
  begins_there before row kind place = grind (arith, not-true)

  -- rows behind the row of a trip
  rest_of : (rows : List ScheduleRow) (before : ScheduleRow) (i : ℕ) (seen : List ℕ) → is_trip_row before ≡ true
      → AreFormed trips (record { before = Some before; seen = i ∷ seen }) rows
      → AreRest before.vehicle before.number i (i ∷ seen) rows
  rest_of [] before i seen kind formed = grind (arith, no_more, no_rows)
  rest_of (row ∷ []) before i seen kind formed = elim (cases_Bool (is_empty_row row)) [
    | inl empty ↦ absurd (none-some _ (led (Some i) row None (rides before i seen row None empty formed.0)).1)
    | inr trip ↦
        let it = due (record { before = Some before; seen = i ∷ seen }) row None trip formed.0 in
        no_more before.vehicle before.number i (i ∷ seen) (row ∷ [])
        (begun (record { before = Some before; seen = i ∷ seen }) row [] it (begins_there before row kind it.place)
        (rest_of [] row it.j (i ∷ seen) (ap not trip)
        (subst (λ at. AreFormed trips at [])
        (more_is (record { before = Some before; seen = i ∷ seen }) row it.j it.repeated) formed.1)))
  ]
  rest_of (row ∷ next ∷ rows) before i seen kind formed = elim (cases_Bool (is_empty_row row)) [
    | inl empty ↦
        let behind = subst (λ at. AreFormed trips at (next ∷ rows))
        (none_more (record { before = Some before; seen = i ∷ seen }) row empty) formed.1 in
        let it = goes_on before i seen row next (slice_get rows 0) kind empty formed.0 behind.0 in
        went_on before i seen row next rows it
        (rest_of rows next it.j (i ∷ seen) (ap not it.kind)
        (subst (λ at. AreFormed trips at rows)
        (more_is (record { before = Some row; seen = i ∷ seen }) next it.j it.repeated) behind.1))
    | inr trip ↦
        let it = due (record { before = Some before; seen = i ∷ seen }) row (Some next) trip formed.0 in
        no_more before.vehicle before.number i (i ∷ seen) (row ∷ next ∷ rows)
        (begun (record { before = Some before; seen = i ∷ seen }) row (next ∷ rows) it
        (begins_there before row kind it.place)
        (rest_of (next ∷ rows) row it.j (i ∷ seen) (ap not trip)
        (subst (λ at. AreFormed trips at (next ∷ rows))
        (more_is (record { before = Some before; seen = i ∷ seen }) row it.j it.repeated) formed.1)))
  ]

  -- all rows
  pub vehicles_of : (rows : List ScheduleRow) → AreFormed trips nothing_read rows → AreVehicles 1 [] rows
  vehicles_of [] formed = no_rows 1 [] formed
  vehicles_of (row ∷ rows) formed = elim (cases_Bool (is_empty_row row)) [
    | inl empty ↦ grind (arith, false≢true, and_parts, slice_get, has)
    | inr trip ↦
        let it = due nothing_read row (slice_get rows 0) trip formed.0 in
        begun nothing_read row rows it (only_true (begins None row) it.place)
        (rest_of rows row it.j [] (ap not trip)
        (subst (λ at. AreFormed trips at rows) (more_is nothing_read row it.j it.repeated) formed.1))
  ]
