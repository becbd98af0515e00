-- A reader behind some of the rows of a table, one row more, and behind all of them.
use Rattle.plan_num.proofs.Common.{◌≡◌, ℕ, zero, suc, ◌+◌, ◌<◌, ◌≤◌, Bool, true, false, cond, List}
use Rattle.plan_num.proofs.Common.{[], ◌∷◌, ◌++◌, length, map, drop, get_or, slice_get, Option}
use Rattle.plan_num.proofs.Common.{Some, None, IfSome, option_map, Result, IfOk, refl, ap, sym, ◌∙◌}
use Rattle.plan_num.proofs.Common.{subst, arith, append_assoc, option_to_list, append-nil, drop_all}
use Rattle.plan_num.proofs.Common.{length-map, none-some, map-map}
use Rattle.std.proofs.Math.Seq.{drop-cons}
use Rattle.std.proofs.lemmas.List.{drop-map}
use Rattle.event_tables.specs.declared.schedule_row.ScheduleRow.{ScheduleRow}
use Rattle.event_tables.proofs.Common.{schedule_row}
use Rattle.tables.proofs.Common.{records_by, numbered_by, Numbered, TableRow, no_row, row_number}
use Rattle.vehicle_model.specs.declared.plan_fault.PlanFault.{PlanFault}
use Rattle.vehicle_model.specs.declared.plan_fault.PlanFault.TheVariants as fault
use Rattle.link_plans.proofs.Common.{next, IsPlan}
use Rattle.vehicle_model.specs.ReadSchedules.{nothing_read, one_more, trip_in, begins, row_fits}
use Rattle.vehicle_model.specs.ReadSchedules.{has_form, first_row, all_come, form_faults, link_of}
use Rattle.vehicle_model.specs.ReadSchedules.{link_to, links_in, follow_faults, or_others}
use Rattle.vehicle_model.specs.ReadSchedules.{row_faults, plan_by, PlanGives}
use Rattle.vehicle_model.specs.Readers.{ReaderParts, has_come, after_link, after_trip, after_row}
use Rattle.vehicle_model.specs.Readers.{CanLink, Knows, IsBehind, finished}
use Rattle.vehicle_model.specs.Trips.{TripsParts, links_of}
use Rattle.vehicle_model.proofs.Following.{gain_there}
use Rattle.vehicle_model.proofs.Reading.{links_can, knows_more}

-- ---- rows of a text

module _ (trips : TripsParts) (rows : List (Numbered ScheduleRow)) (i : ℕ) (reader : ReaderParts)
    (behind : IsBehind trips rows i reader) where
  -- the test of a row, by what was read
  form_is : (row : ScheduleRow) (after : Option ScheduleRow)
      → row_fits trips reader.before reader.last (has_come reader) row after
      ≡ has_form trips behind.read row after
  form_is row after = grind arith

  module _ (at : Numbered ScheduleRow) (rest : List (Numbered ScheduleRow)) (is : drop i rows ≡ at ∷ rest) where
    forms_here : form_faults trips nothing_read rows
        ≡ cond (has_form trips behind.read at.row (first_row rest)) [] (fault.Trips at.number ∷ [])
        ++ form_faults trips (one_more trips behind.read at.row) rest
    unfolding form_faults
    forms_here = behind.forms ∙ ap (form_faults trips behind.read) is

    -- a row that has not the form that is due is the first fault
    pub refused : row_fits trips reader.before reader.last (has_come reader) at.row (first_row rest) ≡ false
        → slice_get (row_faults trips rows) 0 ≡ Some (fault.Trips at.number)
    refused fits =
        let form = sym (form_is at.row (first_row rest)) ∙ fits in grind (
          arith,
          slice_get,
          forms_here,
          form,
        )

    module _ (fits : row_fits trips reader.before reader.last (has_come reader) at.row (first_row rest) ≡ true) where
      form : has_form trips behind.read at.row (first_row rest) ≡ true
      form = sym (form_is at.row (first_row rest)) ∙ fits

      -- one that has it can be read
      pub can_take : IfSome (link_of (begins reader.before at.row) reader.last (trip_in trips at.row))
          (CanLink reader.plan)
      can_take = links_can trips behind.read behind.links reader behind.knows at.row (first_row rest) form

      links_here : links_in trips nothing_read (map (λ one. one.row) rows)
          ≡ (behind.links ++ option_to_list (link_to trips behind.read at.row))
          ++ links_in trips (one_more trips behind.read at.row) (map (λ one. one.row) rest)
      unfolding links_in
      links_here = grind (arith, append_assoc)

      pub taken : (next : ℕ) → drop next rows ≡ rest
          → IsBehind trips rows next (after_row at.row (after_trip (trip_in trips at.row)
          (after_link trips (link_of (begins reader.before at.row) reader.last (trip_in trips at.row)) reader)))
      taken next same = record {
        read = one_more trips behind.read at.row;
        links = behind.links ++ option_to_list (link_to trips behind.read at.row);
        knows = knows_more trips behind.read behind.links reader behind.knows at.row (first_row rest) form;
        forms = grind (arith, forms_here, form);
        linked = grind (arith, links_here);
      }

  -- ---- behind all rows

  none_of : (links : List (ℕ × ℕ)) → option_map (λ (link : ℕ × ℕ). link.1) (slice_get links 0) ≡ None → links ≡ []
  none_of [] e = refl
  none_of (link ∷ links) e = absurd (none-some link.1 (sym e))

  first_of : (links : List (ℕ × ℕ)) (k : ℕ) → option_map (λ (link : ℕ × ℕ). link.1) (slice_get links 0) ≡ Some k
      → slice_get (map (λ (link : ℕ × ℕ). fault.Follow link.1) links) 0 ≡ Some (fault.Follow k)
  first_of [] k e = absurd (none-some k e)
  first_of (link ∷ links) k e = ap (option_map fault.Follow) e

  module _ (past : drop i rows ≡ []) where
    forms_all : form_faults trips nothing_read rows ≡ cond (all_come trips (has_come reader)) [] (fault.Trips 0 ∷ [])
    unfolding form_faults
    forms_all = behind.forms ∙ ap (form_faults trips behind.read) past
        ∙ ap (λ come. cond (all_come trips come) [] (fault.Trips 0 ∷ [])) (λ t k. sym (behind.knows.come k) t)

    links_all : links_in trips nothing_read (map (λ one. one.row) rows) ≡ behind.links
    unfolding links_in
    links_all = grind (arith, append-nil)

    faults_all : row_faults trips rows
        ≡ or_others (cond (all_come trips (has_come reader)) [] (fault.Trips 0 ∷ [])) (follow_faults trips behind.links)
    faults_all = ap (λ all. or_others all
        (follow_faults trips (links_in trips nothing_read (map (λ one. one.row) rows)))) forms_all
        ∙ ap (λ links. or_others (cond (all_come trips (has_come reader)) [] (fault.Trips 0 ∷ []))
        (follow_faults trips links)) links_all

    abbrev plan : List (Option ℕ)
    plan = plan_by (length trips.trips) (links_in trips nothing_read (map (λ one. one.row) rows))

    pub ends : PlanGives (row_faults trips rows) plan (finished trips reader)
    ends = grind (arith, slice_get, faults_all, none_of, links_all, first_of)

  pub plan_ends : IfOk (finished trips reader) (IsPlan (links_of trips))
  plan_ends = grind (arith, gain_there)

-- ---- rows of a table

abbrev row_of : TableRow → Numbered ScheduleRow
row_of row = record { number = row.number; row = schedule_row row.cells }

first_after : (table : List TableRow) (k : ℕ) → first_row (drop k (map row_of table))
    ≡ option_map (λ (row : TableRow). schedule_row row.cells) (slice_get table k)
first_after [] zero = refl
first_after [] (suc k) = refl
first_after (row ∷ table) zero = refl
first_after (row ∷ table) (suc k) = first_after table k

-- the rows of the table of a text, without their numbers
pub without_numbers : (table : List TableRow)
    → map (λ (at : Numbered ScheduleRow). at.row) (numbered_by schedule_row table)
    ≡ records_by schedule_row table
without_numbers table = map-map (λ (at : Numbered ScheduleRow). at.row) row_of table

module _ (trips : TripsParts) (table : List TableRow) (i : ℕ) (reader : ReaderParts)
    (behind : IsBehind trips (numbered_by schedule_row table) i reader) (within : i < length table)
    (row : ScheduleRow) (after : Option ScheduleRow)
    (row_is : row ≡ schedule_row (get_or table i no_row).cells)
    (after_is : after ≡ option_map (λ (row : TableRow). schedule_row row.cells)
    (slice_get table (i + 1))) where
  abbrev rows : List (Numbered ScheduleRow)
  rows = numbered_by schedule_row table

  abbrev at : Numbered ScheduleRow
  at = row_of (get_or table i no_row)

  one_more_row : suc i ≡ i + 1
  one_more_row = omega arith

  rest_is : drop i rows ≡ at ∷ drop (i + 1) rows
  rest_is = grind (arith, drop-map, drop-cons, one_more_row)

  fits_here : (b : Bool) → row_fits trips reader.before reader.last (has_come reader) row after ≡ b
      → row_fits trips reader.before reader.last (has_come reader) at.row (first_row (drop (i + 1) rows)) ≡ b
  fits_here b fits =
      ap (λ some. row_fits trips reader.before reader.last (has_come reader) some
      (first_row (drop (i + 1) rows))) (sym row_is)
      ∙ ap (row_fits trips reader.before reader.last (has_come reader) row) (first_after table (i + 1) ∙ sym after_is)
      ∙ fits

  pub table_refused : (number : ℕ) → number ≡ row_number table i
      → row_fits trips reader.before reader.last (has_come reader) row after ≡ false
      → slice_get (row_faults trips rows) 0 ≡ Some (fault.Trips number)
  table_refused number number_is fits =
      refused trips rows i reader behind at (drop (i + 1) rows) rest_is (fits_here false fits)
      ∙ ap (λ n. Some (fault.Trips n)) (sym number_is)

  module _ (fits : row_fits trips reader.before reader.last (has_come reader) row after ≡ true) where
    pub table_can : IfSome (link_of (begins reader.before row) reader.last (trip_in trips row)) (CanLink reader.plan)
    table_can = subst (λ some. IfSome (link_of (begins reader.before some) reader.last (trip_in trips some))
        (CanLink reader.plan))
        (sym row_is)
        (can_take trips rows i reader behind at (drop (i + 1) rows) rest_is (fits_here true fits))

    pub table_taken : IsBehind trips rows (i + 1) (after_row row (after_trip (trip_in trips row)
        (after_link trips (link_of (begins reader.before row) reader.last (trip_in trips row)) reader)))
    table_taken = subst (λ some. IsBehind trips rows (i + 1) (after_row some (after_trip (trip_in trips some)
        (after_link trips (link_of (begins reader.before some) reader.last (trip_in trips some)) reader))))
        (sym row_is)
        (taken trips rows i reader behind at (drop (i + 1) rows) rest_is (fits_here true fits) (i + 1) refl)

-- before all rows
pub behind_none : (trips : TripsParts) (rows : List (Numbered ScheduleRow)) (reader : ReaderParts)
    → Knows trips nothing_read [] reader → IsBehind trips rows 0 reader
behind_none trips all reader knows =
    record { read = nothing_read; links = []; knows = knows; forms = refl; linked = refl }

-- behind all rows of a table
module _ (trips : TripsParts) (table : List TableRow) (i : ℕ) (reader : ReaderParts)
    (behind : IsBehind trips (numbered_by schedule_row table) i reader) (past : length table ≤ i) where
  pub table_ends : (read : Result (List (Option ℕ)) PlanFault) → read ≡ finished trips reader
      → PlanGives (row_faults trips (numbered_by schedule_row table))
      (plan_by (length trips.trips) (links_in trips nothing_read (records_by schedule_row table))) read
  table_ends read is = subst (PlanGives (row_faults trips (numbered_by schedule_row table))
      (plan_by (length trips.trips) (links_in trips nothing_read (records_by schedule_row table)))) (sym is)
      (subst (λ some. PlanGives (row_faults trips (numbered_by schedule_row table))
      (plan_by (length trips.trips) (links_in trips nothing_read some)) (finished trips reader))
      (without_numbers table)
      (ends trips (numbered_by schedule_row table) i reader behind
      (drop_all i (numbered_by schedule_row table) (omega (arith, past, length-map table row_of)))))

  pub table_plans : (read : Result (List (Option ℕ)) PlanFault) → read ≡ finished trips reader
      → IfOk read (IsPlan (links_of trips))
  table_plans read is = subst (λ some. IfOk some (IsPlan (links_of trips))) (sym is)
      (plan_ends trips (numbered_by schedule_row table) i reader behind)
