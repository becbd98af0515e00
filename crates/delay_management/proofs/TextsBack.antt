-- The texts that are made, read again, are the times and the reasons, and break no rule of their
-- kind.
use Rattle.plan_num.proofs.Common.{◌≡◌, ◌∙◌, ℕ, ℤ, ◌+◌, ◌≤◌, List, [], ◌∷◌, ◌++◌, length, map, All}
use Rattle.plan_num.proofs.Common.{refl, ap, sym, subst, arith, list_any, range_with_len, eq-eqb}
use Rattle.plan_num.proofs.Common.{le-ltb, ne_eqb, length_push, All-map, map-map}
use Rattle.tables.specs.declared.column.ColumnKind.{ColumnKind}
use Rattle.tables.proofs.Common.{disposed_columns, reasons_columns, broken_whys, input_faults}
use Rattle.tables.proofs.Common.{records, table_of, TableRow, InColumns, ReadsBack, KeepRules}
use Rattle.tables.proofs.Common.{accepted, whole_accepted, plain_header, written_back, ReadsAs}
use Rattle.tables.proofs.Common.{records_by, rows_by, columns_written}
use Rattle.tables.specs.declared.row_why.RowWhy.TheVariants as why
use Rattle.tables.specs.declared.file_id.FileId.TheVariants as file
use Rattle.event_tables.specs.declared.disposed_time.DisposedTime.{DisposedTime}
use Rattle.event_tables.proofs.Common.{disposed_time, disposed_time_cells, disposed_time_input}
use Rattle.event_tables.proofs.Common.{disposed_time_rules, disposed_time_header, is_none_of}
use Rattle.event_tables.proofs.Common.{none_of_places, some_missing}
use Rattle.propagation.specs.declared.reason.Reason.{Reason}
use Rattle.delay_management.specs.DispositionStage.{ReasonRow, reason_cells, reason_rows, reasons_header, reasons_text}
use Rattle.delay_management.specs.DispositionStage.{time_rows, times_text}
use Rattle.delay_management.specs.Judged.{reason_row}
use Rattle.delay_management.proofs.WrittenRows.{ReasonFits, TimeFits, reason_table_fits, times_from}

-- rows whose cells stand for them are read again as these rows
module _ {X : Type 0} (columns : List ColumnKind) (of : List ℤ → X) (cells_of : X → List ℤ)
    (same : (row : X) → of (cells_of row) ≡ row) where
  same_rows : (rows : List X) → records_by of (rows_by cells_of rows) ≡ rows
  same_rows [] = refl
  same_rows (row ∷ rows) = λ i. same row i ∷ same_rows rows i

  read_again : (rows : List X) (text : List ℕ) → ReadsBack columns (rows_by cells_of rows) text
      → ReadsAs columns of rows text
  read_again rows text back = (
    back.0,
    sym (map-map of (λ (row : TableRow). row.cells) (table_of columns text))
        ∙ ap (map of) back.1
        ∙ map-map of (λ (row : TableRow). row.cells) (rows_by cells_of rows)
        ∙ same_rows rows,
  )

-- ---- times

time_same : (row : DisposedTime) → disposed_time (disposed_time_cells row) ≡ row
time_same row = refl

times_back : (times : List ℕ) → All TimeFits (time_rows times)
    → ReadsBack disposed_columns (rows_by disposed_time_cells (time_rows times)) (times_text times)
times_back times fit =
    written_back disposed_time_header disposed_columns (rows_by disposed_time_cells (time_rows times))
    (omega arith) (columns_written disposed_columns refl)
    (All-map (λ (row : TableRow). InColumns disposed_columns row.cells)
    (λ row. record { number = 0; cells = disposed_time_cells row }) (time_rows times) fit)
    (refl, plain_header disposed_time_header refl)

pub times_again : (times : List ℕ) → All TimeFits (time_rows times)
    → ReadsAs disposed_columns disposed_time (time_rows times) (times_text times)
times_again times fit =
    read_again disposed_columns disposed_time disposed_time_cells time_same (time_rows times) (times_text times)
    (times_back times fit)

-- ---- reasons

reason_same : (row : ReasonRow) → reason_row (reason_cells row) ≡ row
reason_same row = grind arith

pub reasons_again : (reasons : List Reason) → All ReasonFits (reason_rows reasons)
    → ReadsAs reasons_columns reason_row (reason_rows reasons) (reasons_text reasons)
reasons_again reasons fit =
    read_again reasons_columns reason_row reason_cells reason_same (reason_rows reasons) (reasons_text reasons)
    (written_back reasons_header reasons_columns (rows_by reason_cells (reason_rows reasons))
    (omega arith) (columns_written reasons_columns refl) (reason_table_fits reasons fit)
    (refl, plain_header reasons_header refl))

-- ---- the rules of the kind of times

module _ (count : ℕ) where
  row_keeps : (before : List DisposedTime) (event time : ℕ) → event ≡ length before + 1 → event ≤ count
      → broken_whys (disposed_time_rules (range_with_len 1 count)) before
      (record { event = event; time = time }) ≡ []
  row_keeps before event time place there = grind (arith, none_of_places, ne_eqb, le-ltb, eq-eqb)

  rows_keep : (before : List DisposedTime) (n : ℕ) (times : List ℕ) → n ≡ length before + 1
      → n + length times ≤ count + 1
      → KeepRules (disposed_time_rules (range_with_len 1 count)) before (times_from n times)
  rows_keep before n [] place few = tt
  rows_keep before n (time ∷ times) place few =
      let row : DisposedTime = record { event = n; time = time } in (
        row_keeps before n time place (omega (arith, few)),
        rows_keep (before ++ row ∷ []) (n + 1) times (omega (arith, place, length_push before row))
            (omega (arith, few)),
      )

  events_are : (n : ℕ) (times : List ℕ) → map (λ row. row.event) (times_from n times) ≡ range_with_len n (length times)
  events_are n [] = refl
  events_are n (time ∷ times) = ap (λ events. n ∷ events) (events_are (n + 1) times)

  pub times_accepted : (times : List ℕ) → length times ≡ count → All TimeFits (time_rows times)
      → input_faults (disposed_time_input (range_with_len 1 count)) (times_text times) ≡ []
  times_accepted times each fit =
      let input = disposed_time_input (range_with_len 1 count) in
      let rows = rows_by disposed_time_cells (time_rows times) in
      let same : records input rows ≡ time_rows times =
      same_rows disposed_columns disposed_time disposed_time_cells time_same (time_rows times) in
      accepted input rows (times_text times) (times_back times fit) refl
      (subst (KeepRules (disposed_time_rules (range_with_len 1 count)) []) (sym same)
      (rows_keep [] 1 times refl (omega (arith, each))))
      (whole_accepted file.Disposed
      (λ rows. list_any (is_none_of (map (λ row. row.event) rows)) (range_with_len 1 count)) why.MissingEvent
      (records input rows)
      (ap (λ rows. list_any (is_none_of (map (λ (row : DisposedTime). row.event) rows)) (range_with_len 1 count)) same
      ∙ ap (λ ids. list_any (is_none_of ids) (range_with_len 1 count)) (events_are 1 times)
      ∙ some_missing (length times) count ∙ le-ltb (length times) count (omega (arith, each))))
