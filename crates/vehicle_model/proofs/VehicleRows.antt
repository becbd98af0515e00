-- The rows of vehicles, one after the other.
use Rattle.plan_num.proofs.Common.{◌≡◌, ℕ, zero, suc, ◌+◌, ◌-◌, ◌*◌, ◌<◌, ◌≤◌, not, List, [], ◌∷◌}
use Rattle.plan_num.proofs.Common.{◌++◌, length, map, drop, get_or, All, Option, Some, None, Result}
use Rattle.plan_num.proofs.Common.{Ok, Err, IfOk, refl, ap, sym, ◌∙◌, subst, arith, append_assoc}
use Rattle.plan_num.proofs.Common.{range_with_len, append-nil, drop_all, All-filter}
use Rattle.plan_num.proofs.Common.{get_or-range_with_len, length-range_with_len}
use Rattle.std.proofs.Math.Seq.{drop-cons}
use Rattle.event_tables.specs.declared.schedule_row.ScheduleRow.{ScheduleRow}
use Rattle.event_tables.proofs.Common.{schedule_row}
use Rattle.tables.proofs.Common.{ReadsAs, schedule_columns}
use Rattle.vehicle_model.specs.Plans.{starts}
use Rattle.link_plans.proofs.Common.{next, is_next, IsPlan}
use Rattle.vehicle_model.specs.ReadSchedules.{IsReadBack}
use Rattle.vehicle_model.specs.Schedules.{tour, trip_row, empty_row, rows_behind, vehicle_rows, rows_from, plan_rows}
use Rattle.vehicle_model.specs.Trips.{TripsParts, AreTrips, links_of}
use Rattle.vehicle_model.proofs.PlanBack.{plan_back}
use Rattle.vehicle_model.proofs.Tours.{tour_first}

-- ---- a vehicle

module _ (trips : TripsParts) (plan : List (Option ℕ)) (vehicle first : ℕ) (old : List ScheduleRow) where
  abbrev all : List ScheduleRow
  all = old ++ vehicle_rows trips vehicle (tour (length plan) plan (Some first))

  -- the rows behind the trip of a turn, with those of the rest, are all
  pub record AreBehindTurn (rows : List ScheduleRow) (number last turn : ℕ) : Type 0 where
    pub within : last < length plan
    pub number_is : number + 1 ≡ 2 * turn
    pub rows_are : rows ++ rows_behind trips vehicle number last
        (tour (length plan - turn) plan (next plan last)) ≡ all

  pub on_start : (rows : List ScheduleRow) → first < length plan
      → rows ≡ old ++ trip_row trips vehicle 1 first ∷ [] → AreBehindTurn rows 1 first 1
  on_start rows within is = grind (arith, append_assoc, tour_first)

  module _ (rows : List ScheduleRow) (number last turn : ℕ) (on : AreBehindTurn rows number last turn) where
    pub on_more : (j : ℕ) (ridden new : List ScheduleRow) → turn < length plan → next plan last ≡ Some j
        → j < length plan
        → ridden ≡ rows ++ empty_row trips vehicle (number + 1) last j ∷ []
        → new ≡ ridden ++ trip_row trips vehicle (number + 2) j ∷ []
        → AreBehindTurn new (number + 2) j (turn + 1)
    unfolding rows_behind
    on_more j ridden new left is within ridden_is new_is = grind (arith, tour_first, append_assoc)

    nothing_behind : (rest : List ℕ) → rest ≡ [] → rows ++ rows_behind trips vehicle number last rest ≡ rows
    unfolding rows_behind
    nothing_behind rest e = ap (λ some. rows ++ rows_behind trips vehicle number last some) e ∙ append-nil rows

    no_tour : (fuel : ℕ) → tour fuel plan None ≡ []
    unfolding tour
    no_tour zero = refl
    no_tour (suc fuel) = refl

    none_left : (at : Option ℕ) → tour 0 plan at ≡ []
    unfolding tour
    none_left at = refl

    pub on_none : next plan last ≡ None → rows ≡ all
    on_none is = sym (nothing_behind (tour (length plan - turn) plan (next plan last))
        (ap (tour (length plan - turn) plan) is ∙ no_tour (length plan - turn))) ∙ on.rows_are

    pub on_end : length plan ≤ turn → rows ≡ all
    on_end past = grind (arith, nothing_behind, none_left)

-- ---- all vehicles

-- the first trips are trips
pub starts_within : (plan : List (Option ℕ)) → All (λ j. j < length plan) (starts plan)
starts_within plan = All-filter (λ j. not (is_next plan j)) (λ j. j < length plan) (range_with_len 0 (length plan))
    (λ k d h. let inside : k < length plan = omega (arith, h, length-range_with_len 0 (length plan)) in
    omega (arith, get_or-range_with_len 0 (length plan) k d inside, inside))

module _ (trips : TripsParts) (plan : List (Option ℕ)) where
  -- the rows of vehicles so far, with those of the rest, are those of the plan
  abbrev pub AreBefore : List ℕ → ℕ → List ScheduleRow → Type 0
  AreBefore firsts index rows = rows ++ rows_from trips (index + 1)
      (map (λ first. tour (length plan) plan (Some first)) (drop index firsts)) ≡ plan_rows trips plan

  pub vehicles_more : (firsts : List ℕ) (index first : ℕ) (rows new : List ScheduleRow) → AreBefore firsts index rows
      → index < length firsts → first ≡ get_or firsts index first
      → new ≡ rows ++ vehicle_rows trips (index + 1) (tour (length plan) plan (Some first))
      → AreBefore firsts (index + 1) new
  unfolding rows_from
  vehicles_more firsts index first rows new before within is added =
      grind (arith, drop-cons, append_assoc)

  pub vehicles_end : (firsts : List ℕ) (index : ℕ) (rows : List ScheduleRow) → AreBefore firsts index rows
      → length firsts ≤ index → rows ≡ plan_rows trips plan
  unfolding rows_from
  vehicles_end firsts index rows before past = grind (arith, append-nil, drop_all)

-- a text that is read as the rows is read back, if there was memory for it
pub written : (trips : TripsParts) (plan : List (Option ℕ)) → AreTrips trips → IsPlan (links_of trips) plan
    → (rows : List ScheduleRow) → rows ≡ plan_rows trips plan → {E : Type 0} (result : Result (List ℕ) E)
    → IfOk result (ReadsAs schedule_columns schedule_row rows) → IfOk result (IsReadBack trips plan)
written trips plan are is rows same (Err why) back = tt
written trips plan are is rows same (Ok text) back =
    plan_back trips plan are is text (subst (λ some. ReadsAs schedule_columns schedule_row some text) same back)
