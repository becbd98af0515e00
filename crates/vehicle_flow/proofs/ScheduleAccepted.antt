-- The schedule of a plan has no fault as an input over the events of which its trips are.
use Rattle.plan_num.proofs.Common.{◌≡◌, ℕ, ◌+◌, ◌<◌, ◌≤◌, ◌&&◌, ◌||◌, false, not, cond, nat_lt}
use Rattle.plan_num.proofs.Common.{List, [], ◌∷◌, ◌++◌, length, filter, replicate, slice_set, All}
use Rattle.plan_num.proofs.Common.{Option, Some, None, unwrap_or, refl, ap, sym, ◌∙◌, subst, arith}
use Rattle.plan_num.proofs.Common.{AllByRecursion, le-ltb}
use Rattle.event_tables.specs.declared.expanded_event.ExpandedEvent.{ExpandedEvent}
use Rattle.event_tables.specs.declared.schedule_row.ScheduleRow.{ScheduleRow}
use Rattle.event_tables.proofs.Common.{schedule_row, schedule_cells, expanded_event_ids}
use Rattle.event_tables.proofs.Common.{schedule_header, is_none_of, ends_early, goes_back}
use Rattle.event_tables.proofs.Common.{is_empty_row, is_trip_row, lacks_room, schedule_input}
use Rattle.event_tables.proofs.Common.{schedule_rules, schedule_row_same, rows_inside}
use Rattle.tables.proofs.Common.{rows_by, columns_written, schedule_columns, input_faults}
use Rattle.tables.proofs.Common.{limit_faults, records, ReadsBack, KeepRules, accepted}
use Rattle.tables.proofs.Common.{plain_header, written_back}
use Rattle.tables.specs.declared.counted.Counted.TheVariants as counted
use Rattle.tables.specs.declared.refusal.Refusal.TheVariants as refusal
use Rattle.link_plans.proofs.Common.{next, IsPlan, count, count_most, one_less, some_of}
use Rattle.vehicle_model.specs.Schedules.{dead_between, empty_row, no_trip, plan_rows, plan_text}
use Rattle.vehicle_model.specs.Schedules.{rows_behind, rows_from, tours, trip_of, trip_row}
use Rattle.vehicle_model.specs.Trips.{TripsParts, AreTrips, links_of}
use Rattle.vehicle_model.proofs.Following.{gain_there, is_link}
use Rattle.vehicle_model.proofs.RowsFit.{plan_fits}
use Rattle.vehicle_model.proofs.Tours.{AreBehind, AreTours, has, tours_are}
use Rattle.vehicle_flow.specs.AcceptedSchedules.{IsAccepted, IsRolledOut}
use Rattle.vehicle_flow.proofs.ForwardRides.{goes, planned_known}

-- what a row has that breaks no rule
record IsGood (events : List ExpandedEvent) (row : ScheduleRow) : Type 0 where
  start : is_none_of (expanded_event_ids events) row.run.start.event ≡ false
  end : is_none_of (expanded_event_ids events) row.run.end.event ≡ false
  forward : (is_empty_row row && (ends_early row || lacks_room events row || goes_back events row))
      ≡ false

all_keep : (events : List ExpandedEvent) (before rows : List ScheduleRow)
    → AllByRecursion (IsGood events) rows → KeepRules (schedule_rules events) before rows
all_keep events before [] good = tt
all_keep events before (row ∷ rows) good =
    (rw (good.0.start, good.0.end, good.0.forward) refl, all_keep events (before ++ row ∷ []) rows good.1)

-- ---- the rows of a plan

module _ (trips : TripsParts) (plan : List (Option ℕ)) (are : AreTrips trips)
    (is : IsPlan (links_of trips) plan) (events : List ExpandedEvent)
    (rolled : All (IsRolledOut events) trips.trips) where
  abbrev n : ℕ
  n = length plan

  -- how many trips are left behind some
  abbrev left : List ℕ → ℕ
  left seen = count (λ k. not (has seen k)) 0 n

  one_left : (seen : List ℕ) (i : ℕ) → i < n → has seen i ≡ false → left (i ∷ seen) + 1 ≡ left seen
  one_left seen i within new =
      one_less (has seen) i 0 n (omega arith) (omega (arith, within)) new

  out : (i : ℕ) → i < n → IsRolledOut events (trip_of trips i)
  out i within = rolled i no_trip (omega (arith, within, is.each))

  trip_good : (vehicle number i : ℕ) → i < n → IsGood events (trip_row trips vehicle number i)
  trip_good vehicle number i within = grind (arith, planned_known, out)

  ride_good : (vehicle number i j : ℕ) → i < n → j < n → next plan i ≡ Some j
      → IsGood events (empty_row trips vehicle number i j)
  ride_good vehicle number i j from to e =
      let found = some_of _ (sym (gain_there trips i j) ∙ is.follow i j e) in
      let link = is_link trips i j found.0 found.1 in
      let minutes : unwrap_or (dead_between trips i j) 0 ≡ found.0 =
      ap (λ at. unwrap_or at 0) link.dead in
      record {
        start = planned_known events _ _ (out i from).end;
        end = planned_known events _ _ (out j to).start;
        forward = goes events (empty_row trips vehicle number i j) (trip_of trips j).start
            (out i from).end (out j to).start refl (unwrap_or (dead_between trips i j) 0) refl
            (omega (arith, minutes, link.in_time));
      }

  -- rows behind some trips: each is good, and there are no more of each kind than trips that are left
  record AreRows (seen : List ℕ) (rows : List ScheduleRow) : Type 0 where
    good : AllByRecursion (IsGood events) rows
    few_trips : length (filter is_trip_row rows) ≤ left seen
    few_rides : length (filter is_empty_row rows) ≤ left seen

  behind_rows : (Rest : List ℕ → List (Option ℕ) → Type 0) (rows : List ScheduleRow) (vehicle : ℕ)
      → ((all : List ℕ) (links : List (Option ℕ)) → Rest all links → AreRows all rows)
      → (more : List ℕ) (number i : ℕ) (seen : List ℕ) (linked : List (Option ℕ)) → i < n
      → AreBehind n plan Rest seen linked i more
      → AreRows seen (rows_behind trips vehicle number i more ++ rows)
  unfolding rows_behind
  behind_rows Rest rows vehicle rest [] number i seen linked within behind = rest seen linked behind
  behind_rows Rest rows vehicle rest (j ∷ more) number i seen linked within behind =
      let later = behind_rows Rest rows vehicle rest more (number + 2) j (j ∷ seen)
      (slice_set linked i (Some j)) behind.0.within behind.2 in
      let one = one_left seen j behind.0.within behind.0.new in
      record {
        good = (
          ride_good vehicle (number + 1) i j within behind.0.within behind.1,
          (trip_good vehicle (number + 2) j behind.0.within, later.good),
        );
        few_trips = omega (arith, one, later.few_trips);
        few_rides = omega (arith, one, later.few_rides);
      }

  from_rows : (list : List (List ℕ)) (vehicle : ℕ) (seen : List ℕ) (linked : List (Option ℕ))
      → AreTours n plan seen linked list → AreRows seen (rows_from trips vehicle list)
  unfolding rows_from
  from_rows [] vehicle seen linked tours =
      record { good = tt; few_trips = omega arith; few_rides = omega arith }
  from_rows ([] ∷ more) vehicle seen linked tours = elim tours [ ]
  from_rows ((i ∷ behind) ∷ more) vehicle seen linked tours =
      let later = behind_rows (λ all links. AreTours n plan all links more)
      (rows_from trips (vehicle + 1) more) vehicle
      (λ all links rest. from_rows more (vehicle + 1) all links rest)
      behind 1 i (i ∷ seen) linked tours.0.within tours.1 in
      let one = one_left seen i tours.0.within tours.0.new in
      record {
        good = (trip_good vehicle 1 i tours.0.within, later.good);
        few_trips = omega (arith, one, later.few_trips);
        few_rides = omega (arith, one, later.few_rides);
      }

  rows_are : AreRows [] (plan_rows trips plan)
  rows_are = from_rows (tours plan) 1 [] (replicate n None) (tours_are trips plan are is)

  few_left : left [] ≤ 2000
  few_left = omega (arith, count_most (λ k. not (has [] k)) 0 n, is.each, are.rows.few)

  again : (rows : List ScheduleRow)
      → records (schedule_input events) (rows_by schedule_cells rows) ≡ rows
  again [] = refl
  again (row ∷ rows) = rw (schedule_row_same row, again rows) refl

  under : (k : ℕ) → k ≤ 2000
      → cond (nat_lt 2000 k) (refusal.TooMany counted.Trips k ∷ []) [] ≡ []
  under k few = ap (λ b. cond b (refusal.TooMany counted.Trips k ∷ []) []) (le-ltb 2000 k few)

  few : (rows : List ScheduleRow) → rows ≡ plan_rows trips plan
      → limit_faults (schedule_input events).limits rows ≡ []
  few rows same = grind (arith, rows_are, under, few_left)

  back : ReadsBack schedule_columns (rows_by schedule_cells (plan_rows trips plan)) (plan_text trips plan)
  unfolding plan_text
  back = written_back schedule_header schedule_columns (rows_by schedule_cells (plan_rows trips plan))
      (omega arith) (columns_written schedule_columns refl)
      (rows_inside schedule_columns schedule_row schedule_cells (plan_rows trips plan) (plan_fits trips plan are is))
      (refl, plain_header schedule_header refl)

  text_accepted : input_faults (schedule_input events) (plan_text trips plan) ≡ []
  text_accepted =
      let same = again (plan_rows trips plan) in
      accepted (schedule_input events) (rows_by schedule_cells (plan_rows trips plan))
      (plan_text trips plan) back
      (few (records (schedule_input events) (rows_by schedule_cells (plan_rows trips plan))) same)
      (subst (KeepRules (schedule_rules events) []) (sym same)
      (all_keep events [] (plan_rows trips plan) rows_are.good))
      (λ at is. refl)

pub plan_accepted : (trips : TripsParts) (plan : List (Option ℕ)) → AreTrips trips
    → IsPlan (links_of trips) plan → IsAccepted trips.trips (plan_text trips plan)
plan_accepted trips plan are is events rolled = text_accepted trips plan are is events rolled
