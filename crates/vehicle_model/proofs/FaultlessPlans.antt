-- A text without a fault as a plan is one.
use Rattle.plan_num.proofs.Common.{◌≡◌, ℕ, zero, suc, ◌+◌, ◌≤◌, Bool, true, false, cond, List, []}
use Rattle.plan_num.proofs.Common.{◌∷◌, length, map, drop, replicate, slice_get, Option, Some, None}
use Rattle.plan_num.proofs.Common.{Err, IfOk, refl, ap, sym, ◌∙◌, subst, arith, none-some, drop_all}
use Rattle.event_tables.specs.declared.schedule_row.ScheduleRow.{ScheduleRow}
use Rattle.event_tables.proofs.Common.{schedule_row}
use Rattle.tables.proofs.Common.{numbered_by, schedule_columns, Numbered, faults, table_of}
use Rattle.vehicle_model.specs.declared.plan_fault.PlanFault.{PlanFault}
use Rattle.vehicle_model.specs.declared.plan_fault.PlanFault.TheVariants as fault
use Rattle.link_plans.proofs.Common.{IsPlan}
use Rattle.vehicle_model.specs.ReadSchedules.{all_come, first_row, links_in, nothing_read}
use Rattle.vehicle_model.specs.ReadSchedules.{or_others, plan_by, plan_faults, plan_of, PlanGives}
use Rattle.vehicle_model.specs.ReadSchedules.{row_faults, row_fits}
use Rattle.vehicle_model.specs.Readers.{ReaderParts, IsBehind, has_come, unless_late}
use Rattle.vehicle_model.specs.Trips.{TripsParts, links_of}
use Rattle.vehicle_model.proofs.BehindRows.{behind_none, ends, plan_ends, refused, taken, without_numbers}
use Rattle.vehicle_model.proofs.Reading.{knows_nothing}

-- what is behind one more
behind_next : {X : Type 0} (i : ℕ) (xs : List X) (x : X) (rest : List X) → drop i xs ≡ x ∷ rest
    → drop (suc i) xs ≡ rest
behind_next zero [] x rest is = absurd (cc)
behind_next zero (y ∷ xs) x rest is = cc
behind_next (suc i) [] x rest is = absurd (cc)
behind_next (suc i) (y ∷ xs) x rest is = behind_next i xs x rest is

behind_one : {X : Type 0} (i : ℕ) (xs : List X) (x : X) (rest : List X) → drop i xs ≡ x ∷ rest
    → drop (i + 1) xs ≡ rest
behind_one i xs x rest is = grind (arith, behind_next)

none_first : (all : List PlanFault) (first : PlanFault) → all ≡ [] → slice_get all 0 ≡ Some first → ⊥
none_first all first none is = none-some first (sym (ap (λ (some : List PlanFault). slice_get some 0) none) ∙ is)

module _ (trips : TripsParts) (rows : List (Numbered ScheduleRow)) (none : row_faults trips rows ≡ []) where
  abbrev plan : List (Option ℕ)
  plan = plan_by (length trips.trips) (links_in trips nothing_read (map (λ (one : Numbered ScheduleRow). one.row) rows))

  -- what a reader gives behind all rows is a plan, since no fault is left
  by_end : (reader : ReaderParts) (come : Bool) (late : Option ℕ)
      → PlanGives (row_faults trips rows) plan (cond come (unless_late reader late) (Err (fault.Trips 0)))
      → IfOk (cond come (unless_late reader late) (Err (fault.Trips 0))) (IsPlan (links_of trips))
      → IsPlan (links_of trips) plan
  by_end reader false late gives is = absurd (none_first _ _ none gives)
  by_end reader true (Some k) gives is = absurd (none_first _ _ none gives)
  by_end reader true None gives is = subst (IsPlan (links_of trips)) gives.1 is

  all_read : (left i : ℕ) (reader : ReaderParts) → IsBehind trips rows i reader → length rows ≤ i + left
      → IsPlan (links_of trips) plan
  all_read zero i reader behind few =
      by_end reader (all_come trips (has_come reader)) reader.late
      (ends trips rows i reader behind (drop_all i rows (omega (arith, few))))
      (plan_ends trips rows i reader behind)
  all_read (suc left) i reader behind few =
      by (drop i rows) refl (λ next more. all_read left (i + 1) next more (omega (arith, few)))
    where
      by : (rest : List (Numbered ScheduleRow)) → drop i rows ≡ rest
          → ((next : ReaderParts) → IsBehind trips rows (i + 1) next → IsPlan (links_of trips) plan)
          → IsPlan (links_of trips) plan
      by [] is go = by_end reader (all_come trips (has_come reader)) reader.late
          (ends trips rows i reader behind is) (plan_ends trips rows i reader behind)
      by (at ∷ rest) is go =
          one (row_fits trips reader.before reader.last (has_come reader) at.row (first_row rest)) refl
        where
          one : (fits : Bool) → row_fits trips reader.before reader.last (has_come reader) at.row
              (first_row rest) ≡ fits
              → IsPlan (links_of trips) plan
          one false fits = absurd (none_first _ _ none (refused trips rows i reader behind at rest is fits))
          one true fits = go _ (taken trips rows i reader behind at rest is fits (i + 1) (behind_one i rows at rest is))

  rows_plan : IsPlan (links_of trips) plan
  rows_plan = all_read (length rows) 0 _
      (behind_none trips rows _ (knows_nothing trips (length trips.trips) (replicate (length trips.trips) false)
      (replicate (length trips.trips) None) refl refl refl)) (omega arith)

or_none : {X : Type 0} (some others : List X) → or_others some others ≡ [] → (some ≡ []) × (others ≡ [])
or_none [] others e = (refl, e)
or_none (x ∷ some) others e = absurd (cc)

-- a text without a fault is that of a plan
pub faultless_is_plan : (trips : TripsParts) (text : List ℕ) → plan_faults trips text ≡ []
    → IsPlan (links_of trips) (plan_of trips text)
unfolding plan_faults plan_of
faultless_is_plan trips text none =
    let table = table_of schedule_columns text in
    let rows = or_none (map (λ first. fault.Row first) (faults schedule_columns text)) _ none in
    subst (λ some. IsPlan (links_of trips) (plan_by (length trips.trips) (links_in trips nothing_read some)))
    (without_numbers table) (rows_plan trips (numbered_by schedule_row table) rows.1)
