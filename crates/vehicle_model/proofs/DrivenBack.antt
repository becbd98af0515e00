-- The schedule of some vehicles has the form that is due, and its links are those of the vehicles.
use Rattle.plan_num.proofs.Common.{◌≡◌, ℕ, ◌+◌, ◌<◌, ◌==◌, ◌||◌, Bool, true, false, List, [], ◌∷◌}
use Rattle.plan_num.proofs.Common.{◌++◌, length, map, slice_get, Option, Some, None, refl, ap, sym}
use Rattle.plan_num.proofs.Common.{◌∙◌, arith, eq-eqb, concat, option_to_list, ne_eqb, All-tail}
use Rattle.event_tables.specs.declared.schedule_row.ScheduleRow.{ScheduleRow}
use Rattle.event_tables.proofs.Common.{is_trip_row}
use Rattle.vehicle_model.specs.DrivenSchedules.{as_told}
use Rattle.vehicle_model.specs.ReadSchedules.{Reading, nothing_read, one_more, trip_in, begins}
use Rattle.vehicle_model.specs.ReadSchedules.{last_vehicle, follows_empty}
use Rattle.vehicle_model.specs.ReadSchedules.{has_form, link_of}
use Rattle.vehicle_model.specs.ReadSchedules.{link_to, links_in}
use Rattle.vehicle_model.specs.Schedules.{trip_row, empty_row, rows_behind, rows_from}
use Rattle.vehicle_model.specs.Trips.{TripsParts, AreTrips}
use Rattle.vehicle_model.proofs.DrivenForms.{AreFresh, AreBusy, links_behind, driven_links}
use Rattle.vehicle_model.proofs.DrivenForms.{empty_repeats, more_is, none_more}
use Rattle.vehicle_model.proofs.DrivenRows.{trip_told, told_kind, IsRideRow, told_ride}
use Rattle.vehicle_model.proofs.PlanRead.{AreFormed}
use Rattle.vehicle_model.proofs.Reading.{no_link}
use Rattle.vehicle_model.proofs.Repeated.{same_number, repeats}
use Rattle.vehicle_model.proofs.Tours.{has}
use Rattle.plan_num.proofs.Tests.{later_true, both_true}

first_is : {X : Type 0} {x y : X} {xs ys : List X} → x ∷ xs ≡ y ∷ ys → x ≡ y
first_is e = cc

rest_is : {X : Type 0} {x y : X} {xs ys : List X} → x ∷ xs ≡ y ∷ ys → xs ≡ ys
rest_is e = cc

none_is : {X : Type 0} {x : X} {xs : List X} → [] ≡ x ∷ xs → ⊥
none_is e = cc

some_is : {X : Type 0} {x : X} {xs : List X} → x ∷ xs ≡ [] → ⊥
some_is e = cc

either_true : {a : Bool} (b : Bool) → a ≡ true → (a || b) ≡ true
either_true {a} b e = ap (λ c. c || b) e

module _ (trips : TripsParts) (are : AreTrips trips) where
  -- rows have the form that is due, and some links
  abbrev pub AreRead : Reading → List ScheduleRow → List (ℕ × ℕ) → Type 0
  AreRead read rows links = AreFormed trips read rows × (links_in trips read rows ≡ links)

  -- the row of a trip, with the row told
  row_is : (row : ScheduleRow) (vehicle number j : ℕ) → as_told trips row ≡ trip_row trips vehicle number j
      → row ≡ trip_row trips vehicle number j
  row_is row vehicle number j told = grind (arith, trip_told, told_kind)

  repeated : (row : ScheduleRow) (vehicle number j : ℕ) → row ≡ trip_row trips vehicle number j
      → j < length trips.trips → trip_in trips row ≡ Some j
  repeated row vehicle number j is within = ap (trip_in trips) is ∙ repeats trips are j within

  trip_formed : (read : Reading) (vehicle number j : ℕ) (row : ScheduleRow) (after : Option ScheduleRow)
      → row ≡ trip_row trips vehicle number j → j < length trips.trips → has read.seen j ≡ false
      → (begins read.before (trip_row trips vehicle number j)
      || follows_empty read.before (trip_row trips vehicle number j)) ≡ true
      → has_form trips read row after ≡ true
  trip_formed read vehicle number j row after is within new place = grind (
    arith,
    both_true,
    same_number,
    repeats,
  )

  -- a row without a link, and one with a link
  one_row : (read behind : Reading) (row : ScheduleRow) (rows : List ScheduleRow) (link : Option (ℕ × ℕ))
      (links : List (ℕ × ℕ)) → has_form trips read row (slice_get rows 0) ≡ true
      → one_more trips read row ≡ behind → link_to trips read row ≡ link
      → AreRead behind rows links → AreRead read (row ∷ rows) (option_to_list link ++ links)
  unfolding links_in
  one_row read behind row rows link links form more is rest = grind (arith, AreFormed)

  -- a vehicle begins at a row
  begun : (read : Reading) (vehicle j : ℕ) (row : ScheduleRow) (rows : List ScheduleRow) (links : List (ℕ × ℕ))
      → last_vehicle read.before + 1 ≡ vehicle → as_told trips row ≡ trip_row trips vehicle 1 j
      → j < length trips.trips → has read.seen j ≡ false
      → AreRead (record { before = Some row; seen = j ∷ read.seen }) rows links
      → AreRead read (row ∷ rows) links
  begun read vehicle j row rows links next_one told within new rest =
      let is = row_is row vehicle 1 j told in
      let first : begins read.before (trip_row trips vehicle 1 j) ≡ true =
      both_true (ap (λ v. vehicle == v) next_one ∙ same_number vehicle) refl in
      one_row read (record { before = Some row; seen = j ∷ read.seen }) row rows None links
      (trip_formed read vehicle 1 j row (slice_get rows 0) is within new
      (either_true (follows_empty read.before (trip_row trips vehicle 1 j)) first))
      (more_is trips read row j (repeated row vehicle 1 j is within))
      (ap (λ at. link_to trips read at) is ∙ no_first first) rest
    where
      no_first : begins read.before (trip_row trips vehicle 1 j) ≡ true
          → link_to trips read (trip_row trips vehicle 1 j) ≡ None
      no_first first = ap (λ b. link_of b (slice_get read.seen 0) (trip_in trips (trip_row trips vehicle 1 j))) first

  -- an empty ride and a trip go on with a vehicle
  went_on : (before : ScheduleRow) (i j : ℕ) (seen : List ℕ) (ride row : ScheduleRow) (rows : List ScheduleRow)
      (links : List (ℕ × ℕ)) → is_trip_row before ≡ true
      → as_told trips ride ≡ empty_row trips before.vehicle (before.number + 1) i j
      → as_told trips row ≡ trip_row trips before.vehicle (before.number + 2) j
      → j < length trips.trips → has (i ∷ seen) j ≡ false
      → AreRead (record { before = Some row; seen = j ∷ i ∷ seen }) rows links
      → AreRead (record { before = Some before; seen = i ∷ seen }) (ride ∷ row ∷ rows) ((i, j) ∷ links)
  went_on before i j seen ride row rows links kind ridden driven within new rest =
      let it = told_ride trips ride before.vehicle (before.number + 1) i j ridden in
      let is = row_is row before.vehicle (before.number + 2) j driven in
      let found = repeated row before.vehicle (before.number + 2) j is within in
      one_row (record { before = Some before; seen = i ∷ seen }) (record { before = Some ride; seen = i ∷ seen })
      ride (row ∷ rows) None ((i, j) ∷ links)
      (ride_formed it is found)
      (none_more trips (record { before = Some before; seen = i ∷ seen }) ride it.empty)
      (ap (link_of (begins (Some before) ride) (Some i)) (empty_repeats trips ride it.empty)
      ∙ no_link (begins (Some before) ride) (Some i))
      (one_row (record { before = Some ride; seen = i ∷ seen }) (record { before = Some row; seen = j ∷ i ∷ seen })
      row rows (Some (i, j)) links
      (trip_formed (record { before = Some ride; seen = i ∷ seen }) before.vehicle (before.number + 2) j row
      (slice_get rows 0) is within new
      (later_true (begins (Some ride) (trip_row trips before.vehicle (before.number + 2) j))
      (both_true it.empty (both_true (ap (λ v. before.vehicle == v) it.vehicle_is ∙ same_number before.vehicle)
      (ap (λ k. (before.number + 2) == (k + 1)) it.number_is ∙ two_on)))))
      (more_is trips (record { before = Some ride; seen = i ∷ seen }) row j found)
      (ap (λ at. link_to trips (record { before = Some ride; seen = i ∷ seen }) at) is
      ∙ ap (λ b. link_of b (Some i) (trip_in trips (trip_row trips before.vehicle (before.number + 2) j)))
      (not_begun it)
      ∙ ap (link_of false (Some i)) (repeats trips are j within)) rest)
    where
      two_on : ((before.number + 2) == ((before.number + 1) + 1)) ≡ true
      two_on = grind arith

      not_begun : IsRideRow trips ride before.vehicle (before.number + 1) i j
          → begins (Some ride) (trip_row trips before.vehicle (before.number + 2) j) ≡ false
      not_begun it = grind (arith, ne_eqb)

      ride_formed : IsRideRow trips ride before.vehicle (before.number + 1) i j
          → row ≡ trip_row trips before.vehicle (before.number + 2) j → trip_in trips row ≡ Some j
          → has_form trips (record { before = Some before; seen = i ∷ seen }) ride (Some row) ≡ true
      ride_formed it is found = grind (arith, both_true, eq-eqb, has)

  -- the rows behind the row of a trip, by that row
  behind_is : (row : ScheduleRow) (vehicle number j : ℕ) (more : List ℕ) (vehicles : List (List ℕ))
      → row ≡ trip_row trips vehicle number j
      → rows_behind trips row.vehicle row.number j more ++ rows_from trips (row.vehicle + 1) vehicles
      ≡ rows_behind trips vehicle number j more ++ rows_from trips (vehicle + 1) vehicles
  behind_is row vehicle number j more vehicles is = grind arith

  -- rows behind the row of a trip
  rest_read : (rows : List ScheduleRow) (before : ScheduleRow) (i : ℕ) (seen : List ℕ) (more : List ℕ)
      (vehicles : List (List ℕ)) → is_trip_row before ≡ true → AreBusy vehicles
      → AreFresh (length trips.trips) (i ∷ seen) (more ++ concat vehicles)
      → map (as_told trips) rows ≡ rows_behind trips before.vehicle before.number i more
      ++ rows_from trips (before.vehicle + 1) vehicles
      → AreRead (record { before = Some before; seen = i ∷ seen }) rows (links_behind i more ++ driven_links vehicles)
  unfolding rows_behind rows_from links_in
  rest_read [] before i seen [] [] kind busy fresh told = (fresh, refl)
  rest_read [] before i seen [] ([] ∷ vehicles) kind busy fresh told =
      absurd (omega (arith, busy 0 [] (omega arith)))
  rest_read [] before i seen [] ((j ∷ more) ∷ vehicles) kind busy fresh told = absurd (none_is told)
  rest_read [] before i seen (j ∷ more) vehicles kind busy fresh told = absurd (none_is told)
  rest_read (row ∷ rows) before i seen [] [] kind busy fresh told = absurd (some_is told)
  rest_read (row ∷ rows) before i seen [] ([] ∷ vehicles) kind busy fresh told =
      absurd (omega (arith, busy 0 [] (omega arith)))
  rest_read (row ∷ rows) before i seen [] ((j ∷ more) ∷ vehicles) kind busy fresh told =
      let is = row_is row (before.vehicle + 1) 1 j (first_is told) in
      begun (record { before = Some before; seen = i ∷ seen }) (before.vehicle + 1) j row rows
      (links_behind j more ++ driven_links vehicles) refl (first_is told) fresh.0 fresh.1
      (rest_read rows row j (i ∷ seen) more vehicles (ap is_trip_row is)
      (All-tail (λ driven. 0 < length driven) (j ∷ more) vehicles busy) fresh.2
      (rest_is told ∙ sym (behind_is row (before.vehicle + 1) 1 j more vehicles is)))
  rest_read (row ∷ []) before i seen (j ∷ more) vehicles kind busy fresh told = absurd (none_is (rest_is told))
  rest_read (ride ∷ row ∷ rows) before i seen (j ∷ more) vehicles kind busy fresh told =
      let is = row_is row before.vehicle (before.number + 2) j (first_is (rest_is told)) in
      went_on before i j seen ride row rows (links_behind j more ++ driven_links vehicles) kind
      (first_is told) (first_is (rest_is told)) fresh.0 fresh.1
      (rest_read rows row j (i ∷ seen) more vehicles (ap is_trip_row is) busy fresh.2
      (rest_is (rest_is told) ∙ sym (behind_is row before.vehicle (before.number + 2) j more vehicles is)))

  -- all rows
  pub vehicles_read : (rows : List ScheduleRow) (vehicles : List (List ℕ)) → AreBusy vehicles
      → AreFresh (length trips.trips) [] (concat vehicles) → map (as_told trips) rows ≡ rows_from trips 1 vehicles
      → AreRead nothing_read rows (driven_links vehicles)
  unfolding rows_from links_in
  vehicles_read [] [] busy fresh told = (fresh, refl)
  vehicles_read [] ([] ∷ vehicles) busy fresh told = absurd (omega (arith, busy 0 [] (omega arith)))
  vehicles_read [] ((j ∷ more) ∷ vehicles) busy fresh told = absurd (none_is told)
  vehicles_read (row ∷ rows) [] busy fresh told = absurd (some_is told)
  vehicles_read (row ∷ rows) ([] ∷ vehicles) busy fresh told = absurd (omega (arith, busy 0 [] (omega arith)))
  vehicles_read (row ∷ rows) ((j ∷ more) ∷ vehicles) busy fresh told =
      let is = row_is row 1 1 j (first_is told) in
      begun nothing_read 1 j row rows (links_behind j more ++ driven_links vehicles) refl
      (first_is told) fresh.0 fresh.1
      (rest_read rows row j [] more vehicles (ap is_trip_row is)
      (All-tail (λ driven. 0 < length driven) (j ∷ more) vehicles busy) fresh.2
      (rest_is told ∙ sym (behind_is row 1 1 j more vehicles is)))
