-- A text that is read as the rows of a plan is read as the plan.
use Rattle.plan_num.proofs.Common.{◌≡◌, ℕ, List, [], ◌∷◌, length, map, cond, Ok, arith, Option}
use Rattle.plan_num.proofs.Common.{refl, ap, sym, ◌∙◌, slice_get-map}
use Rattle.event_tables.specs.declared.schedule_row.ScheduleRow.{ScheduleRow}
use Rattle.event_tables.proofs.Common.{schedule_row, schedule_cells, schedule_header}
use Rattle.event_tables.proofs.Common.{schedule_row_same, rows_inside, reads_as}
use Rattle.tables.proofs.Common.{rows_by, ReadsAs, schedule_columns, Numbered, table_text}
use Rattle.tables.proofs.Common.{plain_header, written_back, columns_written}
use Rattle.vehicle_model.specs.declared.plan_fault.PlanFault.TheVariants as fault
use Rattle.link_plans.proofs.Common.{IsPlan}
use Rattle.vehicle_model.specs.ReadSchedules.{Reading, nothing_read, one_more, form_faults}
use Rattle.vehicle_model.specs.ReadSchedules.{links_in, row_faults, plan_by, plan_faults}
use Rattle.vehicle_model.specs.ReadSchedules.{plan_of, IsReadBack}
use Rattle.vehicle_model.specs.Schedules.{plan_rows, plan_text}
use Rattle.vehicle_model.specs.Trips.{TripsParts, AreTrips, links_of}
use Rattle.vehicle_model.proofs.BehindRows.{without_numbers}
use Rattle.vehicle_model.proofs.PlanRead.{AreFormed, plan_read}
use Rattle.vehicle_model.proofs.RowsFit.{plan_fits}

-- rows that have the form that is due have no fault of form
pub formed_faultless : (trips : TripsParts) (read : Reading) (rows : List (Numbered ScheduleRow))
    → AreFormed trips read (map (λ at. at.row) rows) → form_faults trips read rows ≡ []
unfolding form_faults
formed_faultless trips read [] all = ap (λ b. cond b [] (fault.Trips 0 ∷ [])) all
formed_faultless trips read (at ∷ rows) formed =
    grind (arith, slice_get-map, formed_faultless trips (one_more trips read at.row) rows formed.1)

module _ (trips : TripsParts) (plan : List (Option ℕ)) (are : AreTrips trips) (is : IsPlan (links_of trips) plan) where
  rows_back : (rows : List (Numbered ScheduleRow)) → map (λ at. at.row) rows ≡ plan_rows trips plan
      → row_faults trips rows ≡ []
  rows_back rows same = grind (arith, plan_read, formed_faultless, AreFormed)

  pub plan_back : (text : List ℕ) → ReadsAs schedule_columns schedule_row (plan_rows trips plan) text
      → IsReadBack trips plan text
  unfolding plan_faults plan_of
  plan_back text back = record {
    faultless = grind (arith, rows_back, without_numbers);
    same = ap (λ some. plan_by (length trips.trips) (links_in trips nothing_read some)) back.1
        ∙ ap (λ k. plan_by k (links_in trips nothing_read (plan_rows trips plan))) (sym is.each)
        ∙ (plan_read trips plan are is).linked_all;
  }

-- the text of a plan is read back to it
pub plan_text_back : (trips : TripsParts) (plan : List (Option ℕ)) → AreTrips trips
    → IsPlan (links_of trips) plan → IsReadBack trips plan (plan_text trips plan)
unfolding plan_text
plan_text_back trips plan are is =
    let rows = plan_rows trips plan in
    let table = rows_by schedule_cells rows in
    plan_back trips plan are is (table_text schedule_header schedule_columns table)
    (reads_as schedule_columns schedule_row schedule_cells rows {E = Unit {0}} schedule_row_same table refl
    (Ok (table_text schedule_header schedule_columns table))
    (written_back schedule_header schedule_columns table (omega arith)
    (columns_written schedule_columns refl)
    (rows_inside schedule_columns schedule_row schedule_cells rows (plan_fits trips plan are is))
    (refl, plain_header schedule_header refl)))
