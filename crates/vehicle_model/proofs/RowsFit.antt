-- The rows of a plan are in the ranges of their columns.
use Rattle.plan_num.proofs.Common.{◌≡◌, ℕ, zero, suc, pos, ◌+◌, ◌*◌, ◌<◌, ◌≤◌, ◌≤ℤ◌, List, [], ◌∷◌}
use Rattle.plan_num.proofs.Common.{◌++◌, length, not, replicate, slice_set, get_or, All, Option}
use Rattle.plan_num.proofs.Common.{Some, None, unwrap_or, refl, ap, sym, ◌∙◌, arith, ints}
use Rattle.plan_num.proofs.Common.{length-map, All-nil, All-cons, All-map}
use Rattle.event_tables.specs.declared.schedule_row.ScheduleRow.{ScheduleRow}
use Rattle.event_tables.proofs.Common.{trip_cells, schedule_cells}
use Rattle.tables.proofs.Common.{trips_columns, schedule_columns, InColumns}
use Rattle.vehicle_model.specs.Plans.{starts}
use Rattle.link_plans.proofs.Common.{next, is_next, IsPlan, count_most, some_of}
use Rattle.vehicle_model.specs.Schedules.{trip_of, no_trip, dead_between, tour, tours, trip_row}
use Rattle.vehicle_model.specs.Schedules.{empty_row, rows_behind, rows_from, plan_rows}
use Rattle.vehicle_model.specs.Trips.{TripsParts, AreTrips, links_of}
use Rattle.vehicle_model.proofs.Following.{is_link, gain_there}
use Rattle.vehicle_model.proofs.Tours.{AreBehind, AreTours, tours_are}

-- a row in its columns
abbrev pub Fits : ScheduleRow → Type 0
Fits row = InColumns schedule_columns (schedule_cells row)

-- a number in the range of an id
id_small : (n : ℕ) → 1 ≤ n → n ≤ 10000 → (pos 1 ≤ℤ pos n) × (pos n ≤ℤ pos 1000000000)
id_small n low high = (omega (arith, ints, low), omega (arith, ints, high))

module _ (trips : TripsParts) (plan : List (Option ℕ)) (are : AreTrips trips) (is : IsPlan (links_of trips) plan) where
  abbrev n : ℕ
  n = length plan

  cells_fit : (i : ℕ) → i < n → InColumns trips_columns (trip_cells (trip_of trips i))
  cells_fit i within = are.rows.fit i no_trip (omega (arith, within, is.each))

  trip_fits : (vehicle number i : ℕ) → 1 ≤ vehicle → vehicle ≤ 10000 → 1 ≤ number → number ≤ 10000 → i < n
      → Fits (trip_row trips vehicle number i)
  trip_fits vehicle number i v_low v_high low high within = grind arith

  ride_fits : (vehicle number i j : ℕ) → 1 ≤ vehicle → vehicle ≤ 10000 → 1 ≤ number → number ≤ 10000 → i < n → j < n
      → next plan i ≡ Some j → Fits (empty_row trips vehicle number i j)
  ride_fits vehicle number i j v_low v_high low high from to e =
      let before = cells_fit i from in
      let after = cells_fit j to in
      let found = some_of _ (sym (gain_there trips i j) ∙ is.follow i j e) in
      let link = is_link trips i j found.0 found.1 in
      let minutes : unwrap_or (dead_between trips i j) 0 ≡ found.0 = ap (λ at. unwrap_or at 0) link.dead in
      let soon : (trip_of trips i).end.time + unwrap_or (dead_between trips i j) 0 ≤ (trip_of trips j).start.time =
      omega (arith, minutes, link.in_time) in (
        id_small vehicle v_low v_high,
        (
          id_small vehicle v_low v_high,
          (
            id_small number low high,
            (
              (1, omega arith, refl),
              (
                before.1.1.1.1.0,
                (
                  before.1.1.1.1.1.0,
                  (
                    before.1.1.1.1.1.1.0,
                    (
                      before.1.1.1.1.1.1.1.0,
                      (
                        after.0,
                        (
                          after.1.0,
                          (
                            after.1.1.0,
                            (
                              (
                                omega (arith, ints),
                                omega
                                    (arith, ints, soon, after.1.1.1.0.1),
                              ),
                              ((omega (arith, ints), omega (arith, ints)), tt),
                            ),
                          ),
                        ),
                      ),
                    ),
                  ),
                ),
              ),
            ),
          ),
        ),
      )

  -- the rows of a vehicle from a trip on, and others behind them
  behind_fits : (Rest : List ℕ → List (Option ℕ) → Type 0) (rows : List ScheduleRow) (vehicle : ℕ) → 1 ≤ vehicle
      → vehicle ≤ 10000 → ((all : List ℕ) (links : List (Option ℕ)) → Rest all links → All Fits rows)
      → (more : List ℕ) (number i : ℕ) (seen : List ℕ) (linked : List (Option ℕ)) → i < n
      → number + 2 * length more ≤ 10000 → AreBehind n plan Rest seen linked i more
      → All Fits (rows_behind trips vehicle number i more ++ rows)
  unfolding rows_behind
  behind_fits Rest rows vehicle low high rest [] number i seen linked within few behind = rest seen linked behind
  behind_fits Rest rows vehicle low high rest (j ∷ more) number i seen linked within few behind =
      All-cons Fits (empty_row trips vehicle (number + 1) i j)
      (trip_row trips vehicle (number + 2) j ∷ (rows_behind trips vehicle (number + 2) j more ++ rows))
      (ride_fits vehicle (number + 1) i j low high (omega arith) (omega (arith, few)) within behind.0.within behind.1)
      (All-cons Fits (trip_row trips vehicle (number + 2) j)
      (rows_behind trips vehicle (number + 2) j more ++ rows)
      (trip_fits vehicle (number + 2) j low high (omega arith) (omega (arith, few)) behind.0.within)
      (behind_fits Rest rows vehicle low high rest more (number + 2) j (j ∷ seen)
      (slice_set linked i (Some j)) behind.0.within
      (omega (arith, few)) behind.2))

  from_fits : (list : List (List ℕ)) (vehicle : ℕ) (seen : List ℕ) (linked : List (Option ℕ)) → 1 ≤ vehicle
      → vehicle + length list ≤ 10000 → All (λ trip_numbers. length trip_numbers ≤ 2000) list
      → AreTours n plan seen linked list → All Fits (rows_from trips vehicle list)
  unfolding rows_from
  from_fits [] vehicle seen linked low few short are_tours = All-nil Fits
  from_fits ([] ∷ more) vehicle seen linked low few short are_tours = elim are_tours [ ]
  from_fits ((i ∷ trip_numbers) ∷ more) vehicle seen linked low few short are_tours =
      All-cons Fits (trip_row trips vehicle 1 i)
      (rows_behind trips vehicle 1 i trip_numbers ++ rows_from trips (vehicle + 1) more)
      (trip_fits vehicle 1 i low (omega (arith, few)) (omega arith) (omega arith) are_tours.0.within)
      (behind_fits (λ all links. AreTours n plan all links more) (rows_from trips (vehicle + 1) more) vehicle low
      (omega (arith, few))
      (λ all links rest. from_fits more (vehicle + 1) all links (omega arith) (omega (arith, few))
      (λ k d h. short (suc k) d (omega (arith, h))) rest)
      trip_numbers 1 i (i ∷ seen) linked are_tours.0.within
      (omega (arith, short 0 [] (omega arith))) are_tours.1)

  tour_short : (fuel : ℕ) (at : Option ℕ) → length (tour fuel plan at) ≤ fuel
  unfolding tour
  tour_short zero at = omega arith
  tour_short (suc fuel) None = omega arith
  tour_short (suc fuel) (Some i) = omega (arith, tour_short fuel (next plan i))

  pub plan_fits : All Fits (plan_rows trips plan)
  plan_fits = from_fits (tours plan) 1 [] (replicate n None) (omega arith)
      (omega (
        arith,
        length-map (starts plan) (λ first. tour n plan (Some first)),
        count_most (λ j. not (is_next plan j)) 0 n,
        is.each,
        are.rows.few,
      ))
      (All-map (λ trip_numbers. length trip_numbers ≤ 2000) (λ first. tour n plan (Some first)) (starts plan)
      (λ k d h. omega (arith, tour_short n (Some (get_or (starts plan) k d)), is.each, are.rows.few)))
      (tours_are trips plan are is)
