-- The rows of times, one after the other.
use Rattle.plan_num.proofs.Common.{◌≡◌, ◌∙◌, ℕ, ◌+◌, ◌<◌, ◌≤◌, List, [], ◌∷◌, ◌++◌, get_or, length}
use Rattle.plan_num.proofs.Common.{map, take, ap, arith, enumerate_from, get_or-map, length-map}
use Rattle.plan_num.proofs.Common.{take_all, take_more, get_or-enumerate_from}
use Rattle.plan_num.proofs.Common.{length-enumerate_from}
use Rattle.tables.proofs.Common.{TableRow, no_row, records_by}
use Rattle.event_tables.specs.declared.periodic_time.PeriodicTime.{PeriodicTime}
use Rattle.event_tables.proofs.Common.{number_in, periodic_time}
use Rattle.pesp_search.specs.TimetableStage.{time_rows}

no_time : PeriodicTime
no_time = record { event = 0; time = 0 }

module _ (times : List ℕ) (i : ℕ) where
  size : length (time_rows times) ≡ length times
  size = length-map (enumerate_from 1 times) (λ at. record { event = at.0; time = at.1 })
      ∙ length-enumerate_from 1 times

  -- one row more
  pub row_more : i < length times
      → take (i + 1) (time_rows times)
      ≡ take i (time_rows times) ++ record { event = i + 1; time = get_or times i 0 } ∷ []
  row_more inside =
      let place : 1 + i ≡ i + 1 = omega arith in
      take_more (time_rows times) i no_time (omega (arith, inside, size))
      ∙ ap (λ row. take i (time_rows times) ++ row ∷ [])
      (get_or-map (λ at. record { event = at.0; time = at.1 }) (enumerate_from 1 times) i (0, 0) no_time
      (omega (arith, inside, length-enumerate_from 1 times))
      ∙ ap (λ (at : ℕ × ℕ). record { event = at.0; time = at.1 })
      (get_or-enumerate_from 1 times i (0, 0) inside)
      ∙ ap (λ event. record { event = event; time = get_or times i 0 }) place)

  -- all of them
  pub rows_whole : length times ≤ i → take i (time_rows times) ≡ time_rows times
  rows_whole past = take_all i (time_rows times) (omega (arith, past, size))

module _ (table : List TableRow) (i : ℕ) where
  abbrev times_in : List ℕ
  times_in = map (λ row. row.time) (records_by periodic_time table)

  times_size : length times_in ≡ length table
  times_size = length-map (records_by periodic_time table) (λ row. row.time)
      ∙ length-map table (λ row. periodic_time row.cells)

  -- the time of one row more
  pub time_more : i < length table
      → take (i + 1) times_in ≡ take i times_in ++ number_in (get_or table i no_row).cells 1 ∷ []
  time_more inside =
      take_more times_in i 0 (omega (arith, inside, times_size))
      ∙ ap (λ time. take i times_in ++ time ∷ [])
      (get_or-map (λ (row : PeriodicTime). row.time) (records_by periodic_time table) i no_time 0
      (omega (arith, inside, length-map table (λ row. periodic_time row.cells)))
      ∙ ap (λ (row : PeriodicTime). row.time)
      (get_or-map (λ (row : TableRow). periodic_time row.cells) table i no_row no_time inside))
