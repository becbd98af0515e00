-- The times that are made, read again, are the times, and break no rule of their kind.
use Rattle.plan_num.proofs.Common.{◌≡◌, ◌∙◌, ℕ, suc, ◌+◌, ◌<◌, ◌≤◌, false, List, [], ◌∷◌, ◌++◌}
use Rattle.plan_num.proofs.Common.{length, map, All, refl, ap, sym, subst, arith, enumerate_from}
use Rattle.plan_num.proofs.Common.{list_any, range_with_len, eq-eqb, lt-leb, ne_eqb, le-ltb, ints}
use Rattle.plan_num.proofs.Common.{length_push, All-cons, All-map, All-nil, map-map}
use Rattle.tables.specs.declared.file_id.FileId.{FileId}
use Rattle.tables.proofs.Common.{times_p_columns, broken_whys, input_faults, records, table_of}
use Rattle.tables.proofs.Common.{TableRow, InColumns, ReadsBack, KeepRules, accepted}
use Rattle.tables.proofs.Common.{whole_accepted, plain_header, written_back, ReadsAs, records_by}
use Rattle.tables.proofs.Common.{rows_by, columns_written}
use Rattle.tables.specs.declared.row_why.RowWhy.TheVariants as why
use Rattle.event_tables.specs.declared.periodic_time.PeriodicTime.{PeriodicTime}
use Rattle.event_tables.proofs.Common.{periodic_time, periodic_time_cells, periodic_time_header}
use Rattle.event_tables.proofs.Common.{periodic_time_input, periodic_time_rules, is_none_of}
use Rattle.event_tables.proofs.Common.{none_of_places, some_missing}
use Rattle.pesp_search.specs.TimetableStage.{time_rows, times_text}

-- the rows of times from the event of a number on
abbrev rows_from : ℕ → List ℕ → List PeriodicTime
rows_from n times = map (λ at. record { event = at.0; time = at.1 }) (enumerate_from n times)

abbrev Fits : PeriodicTime → Type 0
Fits row = InColumns times_p_columns (periodic_time_cells row)

rows_fit : (n : ℕ) (times : List ℕ) → 1 ≤ n → n + length times ≤ 4001
    → All (λ time. time < 720) times → All Fits (rows_from n times)
rows_fit n [] some few below = All-nil Fits
rows_fit n (time ∷ times) some few below =
    let here : time < 720 = below 0 time (omega arith) in grind (
      arith,
      All-cons,
      ints,
      rows_fit (n
          + 1) times (omega arith) (omega (arith, few)) (λ k d h. below (suc k) d (omega (arith, h))),
    )

pub times_fit : (times : List ℕ) → length times ≤ 4000 → All (λ time. time < 720) times
    → All Fits (time_rows times)
times_fit times few below = rows_fit 1 times (omega arith) (omega (arith, few)) below

times_back : (times : List ℕ) → All Fits (time_rows times)
    → ReadsBack times_p_columns (rows_by periodic_time_cells (time_rows times)) (times_text times)
times_back times fit =
    written_back periodic_time_header times_p_columns (rows_by periodic_time_cells (time_rows times))
    (omega arith) (columns_written times_p_columns refl)
    (All-map (λ (row : TableRow). InColumns times_p_columns row.cells)
    (λ row. record { number = 0; cells = periodic_time_cells row }) (time_rows times) fit)
    (refl, plain_header periodic_time_header refl)

same_rows : (rows : List PeriodicTime) → records_by periodic_time (rows_by periodic_time_cells rows) ≡ rows
same_rows [] = refl
same_rows (row ∷ rows) = ap (λ rest. row ∷ rest) (same_rows rows)

-- the text of times is read as their rows
pub times_read : (times : List ℕ) → All Fits (time_rows times)
    → ReadsAs times_p_columns periodic_time (time_rows times) (times_text times)
times_read times fit =
    let back = times_back times fit in (
      back.0,
      sym (map-map periodic_time (λ (row : TableRow). row.cells) (table_of times_p_columns (times_text times)))
          ∙ ap (map periodic_time) back.1
          ∙ map-map periodic_time (λ (row : TableRow). row.cells) (rows_by periodic_time_cells (time_rows times))
          ∙ same_rows (time_rows times),
    )

-- ---- the rules of their kind

module _ (file : FileId) (period count : ℕ) where
  -- a row of an event that is there, at a time of the period, keeps the rules in its place
  row_keeps : (before : List PeriodicTime) (event time : ℕ) → event ≡ length before + 1 → event ≤ count
      → time < period
      → broken_whys (periodic_time_rules period (range_with_len 1 count)) before
      (record { event = event; time = time }) ≡ []
  row_keeps before event time place there below =
      let known : is_none_of (range_with_len 1 count) event ≡ false = grind (
        arith,
        none_of_places,
        ne_eqb,
        le-ltb,
      ) in
      rw (eq-eqb event (length before + 1) place, known, lt-leb period time below) refl

  rows_keep : (before : List PeriodicTime) (n : ℕ) (times : List ℕ) → n ≡ length before + 1
      → n + length times ≤ count + 1 → All (λ time. time < period) times
      → KeepRules (periodic_time_rules period (range_with_len 1 count)) before (rows_from n times)
  rows_keep before n [] place few below = tt
  rows_keep before n (time ∷ times) place few below =
      let row : PeriodicTime = record { event = n; time = time } in (
        row_keeps before n time place (omega (arith, few)) (below 0 time (omega arith)),
        rows_keep (before ++ row ∷ []) (n + 1) times (omega (arith, place, length_push before row))
            (omega (arith, few)) (λ k d h. below (suc k) d (omega (arith, h))),
      )

  events_are : (n : ℕ) (times : List ℕ)
      → map (λ row. row.event) (rows_from n times) ≡ range_with_len n (length times)
  events_are n [] = refl
  events_are n (time ∷ times) = ap (λ events. n ∷ events) (events_are (n + 1) times)

  pub times_accepted : (times : List ℕ) → length times ≡ count → All (λ time. time < period) times
      → All Fits (time_rows times)
      → input_faults (periodic_time_input file period (range_with_len 1 count)) (times_text times) ≡ []
  times_accepted times each below fit =
      let input = periodic_time_input file period (range_with_len 1 count) in
      let rows = rows_by periodic_time_cells (time_rows times) in
      let same : records input rows ≡ time_rows times = same_rows (time_rows times) in
      accepted input rows (times_text times) (times_back times fit) refl
      (subst (KeepRules (periodic_time_rules period (range_with_len 1 count)) []) (sym same)
      (rows_keep [] 1 times refl (omega (arith, each)) below))
      (whole_accepted file
      (λ rows. list_any (is_none_of (map (λ row. row.event) rows)) (range_with_len 1 count)) why.MissingEvent
      (records input rows)
      (ap (λ rows. list_any (is_none_of (map (λ (row : PeriodicTime). row.event) rows)) (range_with_len 1 count)) same
      ∙ ap (λ ids. list_any (is_none_of ids) (range_with_len 1 count)) (events_are 1 times)
      ∙ some_missing (length times) count ∙ le-ltb (length times) count (omega (arith, each))))
