-- The rows of a plan are read as the plan.
use Rattle.plan_num.proofs.Common.{◌≡◌, ℕ, ◌+◌, ◌<◌, ◌==◌, ◌&&◌, ◌||◌, not, Bool, true, false, List}
use Rattle.plan_num.proofs.Common.{[], ◌∷◌, ◌++◌, length, filter, fold, replicate, slice_get}
use Rattle.plan_num.proofs.Common.{slice_set, Option, Some, None, IfSome, unwrap_or, refl, ap, sym}
use Rattle.plan_num.proofs.Common.{◌∙◌, subst, arith, list_all, range_with_len, option_to_list}
use Rattle.plan_num.proofs.Common.{ne_eqb}
use Rattle.event_tables.specs.declared.schedule_row.ScheduleRow.{ScheduleRow}
use Rattle.event_tables.proofs.Common.{is_trip_row}
use Rattle.link_plans.proofs.Common.{next, IsPlan}
use Rattle.vehicle_model.specs.ReadSchedules.{Reading, nothing_read, one_more, trip_in, begins}
use Rattle.vehicle_model.specs.ReadSchedules.{last_vehicle, follows_trip, follows_empty, is_new}
use Rattle.vehicle_model.specs.ReadSchedules.{leaves, goes_to, is_ride, leads_to, last_seen}
use Rattle.vehicle_model.specs.ReadSchedules.{has_seen, has_form, all_come, link_of, link_to}
use Rattle.vehicle_model.specs.ReadSchedules.{links_in, is_late}
use Rattle.vehicle_model.specs.Schedules.{trip_of, dead_between, empty_ride, trip_row, empty_row}
use Rattle.vehicle_model.specs.Schedules.{rows_behind, rows_from, plan_rows, tours}
use Rattle.vehicle_model.specs.Trips.{TripsParts, AreTrips, links_of}
use Rattle.vehicle_model.proofs.Following.{gain_there}
use Rattle.vehicle_model.proofs.Reading.{no_link}
use Rattle.vehicle_model.proofs.Repeated.{same_number, end_itself, repeats}
use Rattle.vehicle_model.proofs.Tours.{IsFresh, AreBehind, AreTours, tours_are}
use Rattle.plan_num.proofs.Tests.{later_true, both_true}

-- each row has the form that is due, and behind all of them every trip has come
abbrev pub AreFormed : TripsParts → Reading → List ScheduleRow → Type 0
AreFormed trips read [] = all_come trips (has_seen read) ≡ true
AreFormed trips read (row ∷ rows) = (has_form trips read row (slice_get rows 0) ≡ true)
    × AreFormed trips (one_more trips read row) rows

-- a plan with a link more, if there is one
abbrev pub with_link : List (Option ℕ) → Option (ℕ × ℕ) → List (Option ℕ)
with_link plan None = plan
with_link plan (Some link) = slice_set plan link.0 (Some link.1)

-- rows are read without a fault, and their links make a plan
pub record AreRead (trips : TripsParts) (plan : List (Option ℕ)) (read : Reading) (linked : List (Option ℕ))
    (rows : List ScheduleRow) : Type 0 where
  pub formed : AreFormed trips read rows
  pub linked_all : fold (λ plan link. slice_set plan link.0 (Some link.1)) linked (links_in trips read rows) ≡ plan
  pub in_time : filter (is_late trips) (links_in trips read rows) ≡ []

read_none : (trips : TripsParts) (plan : List (Option ℕ)) (read : Reading) (linked : List (Option ℕ))
    → all_come trips (has_seen read) ≡ true → linked ≡ plan → AreRead trips plan read linked []
unfolding links_in
read_none trips plan read linked all same = record { formed = all; linked_all = same; in_time = refl }

read_row : (trips : TripsParts) (plan : List (Option ℕ)) (read : Reading) (linked : List (Option ℕ))
    (row : ScheduleRow) (rows : List ScheduleRow) (link : Option (ℕ × ℕ))
    → has_form trips read row (slice_get rows 0) ≡ true → link_to trips read row ≡ link
    → IfSome link (λ at. is_late trips at ≡ false)
    → AreRead trips plan (one_more trips read row) (with_link linked link) rows
    → AreRead trips plan read linked (row ∷ rows)
unfolding links_in
read_row trips plan read linked row rows link form is in_time rest = grind (arith, slice_set)

either_true : {a : Bool} (b : Bool) → a ≡ true → (a || b) ≡ true
either_true {a} b e = ap (λ c. c || b) e

module _ (trips : TripsParts) (plan : List (Option ℕ)) (are : AreTrips trips) (is : IsPlan (links_of trips) plan) where
  abbrev n : ℕ
  n = length plan

  -- the row of a trip
  trip_is : (vehicle number i : ℕ) → i < n → trip_in trips (trip_row trips vehicle number i) ≡ Some i
  trip_is vehicle number i within = repeats trips are i (omega (arith, within, is.each))

  trip_formed : (read : Reading) (vehicle number i : ℕ) (after : Option ScheduleRow) → IsFresh n plan read.seen i
      → (begins read.before (trip_row trips vehicle number i)
      || follows_empty read.before (trip_row trips vehicle number i)) ≡ true
      → has_form trips read (trip_row trips vehicle number i) after ≡ true
  trip_formed read vehicle number i after fresh place =
      both_true (same_number vehicle) (both_true place
      (ap (is_new (has_seen read)) (trip_is vehicle number i fresh.within) ∙ ap not fresh.new))

  seen_is : (read : Reading) (vehicle number i : ℕ) → i < n
      → one_more trips read (trip_row trips vehicle number i)
      ≡ record { before = Some (trip_row trips vehicle number i); seen = i ∷ read.seen }
  seen_is read vehicle number i within =
      ap (λ at. record { before = Some (trip_row trips vehicle number i); seen = option_to_list at ++ read.seen })
      (trip_is vehicle number i within)

  ride_leaves : (i j minutes : ℕ) → leaves (trip_of trips i)
      (empty_ride (trip_of trips i) (trip_of trips j) minutes) ≡ true
  ride_leaves i j minutes = both_true (end_itself (trip_of trips i).end) refl

  ride_goes : (i j : ℕ) → goes_to (dead_between trips i j) (trip_of trips j)
      (empty_ride (trip_of trips i) (trip_of trips j) (unwrap_or (dead_between trips i j) 0)) ≡ true
  ride_goes i j = grind arith

  ride_formed : (read : Reading) (before : ScheduleRow) (vehicle number i j : ℕ) → read.before ≡ Some before
      → is_trip_row before ≡ true → before.vehicle ≡ vehicle → before.number ≡ number → last_seen read ≡ Some i → j < n
      → has_form trips read (empty_row trips vehicle (number + 1) i j)
      (Some (trip_row trips vehicle (number + 2) j)) ≡ true
  ride_formed read before vehicle number i j before_is kind vehicle_is number_is last within =
      both_true (same_number vehicle) (both_true
      (ap (λ at. follows_trip at (empty_row trips vehicle (number + 1) i j)) before_is
      ∙ both_true kind (both_true (ap (λ v. vehicle == v) vehicle_is ∙ same_number vehicle)
      (ap (λ k. (number + 1) == (k + 1)) number_is ∙ same_number (number + 1))))
      (ap (λ at. leads_to trips at (empty_row trips vehicle (number + 1) i j)
      (Some (trip_row trips vehicle (number + 2) j))) last
      ∙ both_true (both_true (same_number vehicle) refl)
      (ap (is_ride trips i (empty_row trips vehicle (number + 1) i j).run) (trip_is vehicle (number + 2) j within)
      ∙ both_true (ride_leaves i j (unwrap_or (dead_between trips i j) 0)) (ride_goes i j))))

  -- a vehicle from a trip on
  vehicle_read : (Rest : List ℕ → List (Option ℕ) → Type 0) (rows : List ScheduleRow) (vehicle : ℕ)
      → ((read : Reading) (linked : List (Option ℕ)) → last_vehicle read.before ≡ vehicle → Rest read.seen linked
      → AreRead trips plan read linked rows)
      → (more : List ℕ) (number i : ℕ) (seen : List ℕ) (linked : List (Option ℕ)) (before : ScheduleRow)
      → is_trip_row before ≡ true → before.vehicle ≡ vehicle → before.number ≡ number
      → AreBehind n plan Rest (i ∷ seen) linked i more
      → AreRead trips plan (record { before = Some before; seen = i ∷ seen }) linked
      (rows_behind trips vehicle number i more ++ rows)
  unfolding rows_behind
  vehicle_read Rest rows vehicle rest [] number i seen linked before kind vehicle_is number_is are_behind =
      rest (record { before = Some before; seen = i ∷ seen }) linked vehicle_is are_behind
  vehicle_read Rest rows vehicle rest (j ∷ more) number i seen linked before kind vehicle_is number_is are_behind =
      let fresh : IsFresh n plan (i ∷ seen) j = are_behind.0 in
      let next_is : next plan i ≡ Some j = are_behind.1 in
      let ride : ScheduleRow = empty_row trips vehicle (number + 1) i j in
      let row : ScheduleRow = trip_row trips vehicle (number + 2) j in
      let read : Reading = record { before = Some before; seen = i ∷ seen } in
      let riding : Reading = record { before = Some ride; seen = i ∷ seen } in
      let apart : begins (Some ride) row ≡ false = ap (λ b. b && ((number + 2) == 1))
      (ne_eqb vehicle (vehicle + 1) (λ e. one_apart e)) in
      let number_more : (number + 2) ≡ ((number + 1) + 1) = omega arith in
      read_row trips plan read linked ride (row ∷ (rows_behind trips vehicle (number + 2) j more ++ rows)) None
      (ride_formed read before vehicle number i j refl kind vehicle_is number_is refl fresh.within)
      (no_link (begins (Some before) ride) (Some i))
      tt
      (read_row trips plan riding linked row (rows_behind trips vehicle (number + 2) j more ++ rows) (Some (i, j))
      (trip_formed riding vehicle (number + 2) j
      (slice_get (rows_behind trips vehicle (number + 2) j more ++ rows) 0) fresh
      (later_true (begins (Some ride) row) (both_true (same_number vehicle)
      (ap (λ k. (number + 2) == k) (sym number_more) ∙ same_number (number + 2)))))
      (ap (λ b. link_of b (Some i) (trip_in trips row)) apart
      ∙ ap (link_of false (Some i)) (trip_is vehicle (number + 2) j fresh.within))
      (ap not (sym (gain_there trips i j) ∙ is.follow i j next_is))
      (subst (λ some. AreRead trips plan some (slice_set linked i (Some j))
      (rows_behind trips vehicle (number + 2) j more ++ rows))
      (sym (seen_is riding vehicle (number + 2) j fresh.within))
      (vehicle_read Rest rows vehicle rest more (number + 2) j (i ∷ seen) (slice_set linked i (Some j)) row
      refl refl refl are_behind.2)))
    where
      one_apart : vehicle ≡ vehicle + 1 → ⊥
      one_apart e = omega (arith, e)

  -- vehicles one after the other
  tours_read : (list : List (List ℕ)) (vehicle : ℕ) (read : Reading) (linked : List (Option ℕ))
      → last_vehicle read.before + 1 ≡ vehicle → AreTours n plan read.seen linked list
      → AreRead trips plan read linked (rows_from trips vehicle list)
  unfolding rows_from
  tours_read [] vehicle read linked next_one are_tours = read_none trips plan read linked
      (subst (λ k. list_all (has_seen read) (range_with_len 0 k) ≡ true) is.each are_tours.0) are_tours.1
  tours_read ([] ∷ more) vehicle read linked next_one are_tours = elim are_tours [ ]
  tours_read ((i ∷ trip_numbers) ∷ more) vehicle read linked next_one are_tours =
      let row : ScheduleRow = trip_row trips vehicle 1 i in
      let starts : begins read.before row ≡ true = grind (arith, both_true, same_number) in
      read_row trips plan read linked row (rows_behind trips vehicle 1 i trip_numbers ++ rows_from trips
      (vehicle + 1) more) None
      (trip_formed read vehicle 1 i
      (slice_get (rows_behind trips vehicle 1 i trip_numbers ++ rows_from trips (vehicle + 1) more) 0)
      are_tours.0 (either_true (follows_empty read.before row) starts))
      (ap (λ b. link_of b (last_seen read) (trip_in trips row)) starts)
      tt
      (subst (λ some. AreRead trips plan some linked
      (rows_behind trips vehicle 1 i trip_numbers ++ rows_from trips (vehicle + 1) more))
      (sym (seen_is read vehicle 1 i are_tours.0.within))
      (vehicle_read (λ all links. AreTours n plan all links more) (rows_from trips (vehicle + 1) more) vehicle
      (λ behind links same rest. tours_read more (vehicle + 1) behind links (ap (λ v. v + 1) same) rest)
      trip_numbers 1 i read.seen linked row refl refl refl are_tours.1))

  -- the rows of a plan
  pub plan_read : AreRead trips plan nothing_read (replicate n None) (plan_rows trips plan)
  plan_read = tours_read (tours plan) 1 nothing_read (replicate n None) refl (tours_are trips plan are is)
