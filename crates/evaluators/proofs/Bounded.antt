-- Numbers of inputs without a fault that are not too great.
use Rattle.plan_num.proofs.Common.{◌≡◌, ◌≤◌, ◌≤ℤ◌, ℕ, ℤ, pos, negsuc, ◌*◌, true, false, cond, List}
use Rattle.plan_num.proofs.Common.{[], ◌∷◌, length, get_or, refl, arith, All, Some, option_map}
use Rattle.plan_num.proofs.Common.{unwrap_or, unsigned_abs, sum_by, int_eq, ints, All-cons}
use Rattle.plan_num.proofs.Common.{All-head, All-tail, All-map, All-filter, length-filter_both}
use Rattle.plan_num.proofs.Common.{sum_by-le, mul-le}
use Rattle.tables.proofs.Common.{pool_cost_columns, concept_columns, input_faults, records_of}
use Rattle.tables.proofs.Common.{TableRow, InColumns, few_rows, sound_rows}
use Rattle.event_tables.specs.declared.disposed_time.DisposedTime.{DisposedTime}
use Rattle.event_tables.specs.declared.expanded_event.ExpandedEvent.{ExpandedEvent}
use Rattle.event_tables.specs.declared.schedule_row.ScheduleRow.{ScheduleRow}
use Rattle.event_tables.proofs.Common.{AreDisposedTimes, AreScheduleRows}
use Rattle.evaluators.specs.declared.rows.CostRow.{CostRow}
use Rattle.evaluators.specs.declared.rows.LineRow.{LineRow}
use Rattle.evaluators.specs.FirstRows.{firsts}
use Rattle.evaluators.specs.Statistic.{cost_of, cost_of_runs, times_of}
use Rattle.evaluators.specs.StatisticInputs.{concept_input, cost_input, cost_row, cost_with, line_limit, line_row}
use Rattle.evaluators.specs.StatisticInputs.{lines_of}
use Rattle.propagation.specs.declared.times.TheConstants.{LATEST}

-- ---- costs and frequencies

number_below : (cell : ℤ) (most : ℕ) → pos 0 ≤ℤ cell → cell ≤ℤ pos most → unsigned_abs cell ≤ most
number_below (pos n) most low high = omega (arith, ints)
number_below (negsuc n) most low high = absurd (omega (arith, ints))

cost_below : (cells : List ℤ) → InColumns pool_cost_columns cells
    → (cost_row cells).cost ≤ 1000000000000000000
cost_below [] h = absurd h
cost_below (a ∷ []) h = absurd h.1
cost_below (a ∷ b ∷ []) h = absurd h.1.1
cost_below (a ∷ b ∷ c ∷ cells) h = number_below c 1000000000000000000 h.1.1.0.0 h.1.1.0.1

frequency_below : (cells : List ℤ) → InColumns concept_columns cells
    → (line_row cells).frequency ≤ 1000
frequency_below [] h = absurd h
frequency_below (a ∷ []) h = absurd h.1
frequency_below (a ∷ b ∷ []) h = absurd h.1.1
frequency_below (a ∷ b ∷ c ∷ []) h = absurd h.1.1.1
frequency_below (a ∷ b ∷ c ∷ d ∷ cells) h = number_below d 1000 h.1.1.1.0.0 h.1.1.1.0.1

pub costs_below : (text : List ℕ) → input_faults cost_input text ≡ []
    → All (λ row. row.cost ≤ 1000000000000000000) (records_of cost_input text)
costs_below text none =
    let rows = sound_rows cost_input text none in
    All-map (λ (row : CostRow). row.cost ≤ 1000000000000000000) (λ (row : TableRow). cost_row
    row.cells) _
    (λ k d inside. cost_below _ (rows k d inside).2)

pub frequencies_below : (costs : List CostRow) (text : List ℕ)
    → input_faults (concept_input costs) text ≡ []
    → All (λ row. row.frequency ≤ 1000) (records_of (concept_input costs) text)
frequencies_below costs text none =
    let rows = sound_rows (concept_input costs) text none in
    All-map (λ (row : LineRow). row.frequency ≤ 1000) (λ (row : TableRow). line_row row.cells) _
    (λ k d inside. frequency_below _ (rows k d inside).2)

found_below : (costs : List CostRow) (line : ℤ) → All (λ row. row.cost ≤ 1000000000000000000) costs
    → cost_of costs line ≤ 1000000000000000000
found_below [] line h = omega arith
found_below (row ∷ costs) line h =
    let rest = found_below costs line (All-tail (λ (row : CostRow). row.cost ≤
    1000000000000000000) row costs h) in
    elim (int_eq line row.line) as (λ b. unwrap_or (option_map (λ (row : CostRow). row.cost)
    (cond b (Some row) (cost_with costs line))) 0 ≤ 1000000000000000000) [
      | true ↦ All-head (λ (row : CostRow). row.cost ≤ 1000000000000000000) row costs h
      | false ↦ rest
    ]

-- what holds of all rows holds of the first ones
pub all_firsts : {X : Type 0} (key : X → ℤ) (P : X → Type 0) (rows : List X) → All P rows
    → All P (firsts key rows)
unfolding firsts
all_firsts key P [] h = h
all_firsts key P (row ∷ rows) h =
    All-cons P row _ (All-head P row rows h)
    (All-filter _ P (firsts key rows) (all_firsts key P rows (All-tail P row rows h)))

module _ (costs : List CostRow) (text : List ℕ)
    (small : All (λ row. row.cost ≤ 1000000000000000000) costs)
    (none : input_faults (concept_input costs) text ≡ []) where
  abbrev lines : List LineRow
  lines = lines_of (records_of (concept_input costs) text)

  pub lines_few : length lines ≤ 200
  lines_few = few_rows (concept_input costs) text line_limit [] refl none

  pub runs_below : All (λ row. cost_of_runs costs row ≤ 1000000000000000000000) lines
  runs_below =
      all_firsts (λ (row : LineRow). row.line) (λ row. cost_of_runs costs row ≤
      1000000000000000000000)
      (records_of (concept_input costs) text)
      (λ k d inside.
      let row = get_or (records_of (concept_input costs) text) k d in
      mul-le (cost_of costs row.line) row.frequency 1000000000000000000 1000
      (found_below costs row.line small) (frequencies_below costs text none k d inside))

  pub cost_sum_below : sum_by (cost_of_runs costs) lines ≤ 200000000000000000000000
  cost_sum_below =
      let sum = sum_by-le (cost_of_runs costs) 1000000000000000000000 lines runs_below in
      omega (arith, sum, lines_few)

-- ---- the day

pub times_below : (count : ℕ) (rows : List DisposedTime) → AreDisposedTimes count rows
    → All (λ time. time ≤ LATEST) (times_of rows)
times_below count rows are =
    All-map (λ (time : ℕ). time ≤ LATEST) (λ (row : DisposedTime). row.time) rows
    (λ k d inside. let fit = are.fit k d inside in omega (arith, ints, fit.1.0.1))

pub rows_few : (events : List ExpandedEvent) (rows : List ScheduleRow) → AreScheduleRows events rows
    → length rows ≤ 4000
rows_few events rows are = grind (arith, length-filter_both)
