-- The rows of times and of reasons, in their columns.
use Rattle.plan_num.proofs.Common.{◌≡◌, ◌∙◌, ℕ, suc, ◌+◌, ◌<◌, ◌≤◌, List, [], ◌∷◌, ◌++◌, length}
use Rattle.plan_num.proofs.Common.{map, take, get_or, All, refl, ap, arith, enumerate_from, ints}
use Rattle.plan_num.proofs.Common.{get_or-map, length-map, take_all, take_more, All-cons, All-map}
use Rattle.plan_num.proofs.Common.{All-nil, get_or-enumerate_from, length-enumerate_from}
use Rattle.tables.proofs.Common.{disposed_columns, reasons_columns, TableRow, InColumns, rows_by}
use Rattle.event_tables.specs.declared.disposed_time.DisposedTime.{DisposedTime}
use Rattle.event_tables.proofs.Common.{disposed_time_cells}
use Rattle.propagation.specs.declared.reason.Reason.{Reason}
use Rattle.propagation.specs.declared.times.TheConstants.{LATEST}
use Rattle.propagation.proofs.Common.{named_activity}
use Rattle.propagation.specs.declared.reason.Reason.TheVariants as reason
use Rattle.delay_management.specs.DispositionStage.{ReasonRow, reason_cells, reason_place, reason_rows, time_rows}

-- ---- one row more, of rows that are numbered from 1

module _ {X Y : Type 0} (row : ℕ × X → Y) (xs : List X) (i : ℕ) where
  abbrev rows : List Y
  rows = map row (enumerate_from 1 xs)

  size : length rows ≡ length xs
  size = length-map (enumerate_from 1 xs) row ∙ length-enumerate_from 1 xs

  pub row_more : (d : X) → i < length xs → take (i + 1) rows ≡ take i rows ++ row (i + 1, get_or xs i d) ∷ []
  row_more d inside =
      let place : 1 + i ≡ i + 1 = omega arith in
      take_more rows i (row (0, d)) (omega (arith, inside, size))
      ∙ ap (λ one. take i rows ++ one ∷ [])
      (get_or-map row (enumerate_from 1 xs) i (0, d) (row (0, d)) (omega (arith, inside, length-enumerate_from 1 xs))
      ∙ ap row (get_or-enumerate_from 1 xs i (0, d) inside ∙ ap (λ n. (n, get_or xs i d)) place))

  pub rows_whole : length xs ≤ i → take i rows ≡ rows
  rows_whole past = take_all i rows (omega (arith, past, size))

-- ---- their cells fit

abbrev pub TimeFits : DisposedTime → Type 0
TimeFits row = InColumns disposed_columns (disposed_time_cells row)

abbrev pub times_from : ℕ → List ℕ → List DisposedTime
times_from n times = map (λ at. record { event = at.0; time = at.1 }) (enumerate_from n times)

times_fit_from : (n : ℕ) (times : List ℕ) → 1 ≤ n → n + length times ≤ 100001
    → All (λ time. time ≤ LATEST) times → All TimeFits (times_from n times)
times_fit_from n [] some few small = All-nil TimeFits
times_fit_from n (time ∷ times) some few small =
    let here : time ≤ LATEST = small 0 time (omega arith) in
    let row : DisposedTime = record { event = n; time = time } in
    All-cons TimeFits row (times_from (n + 1) times)
    ((omega (arith, ints, some), omega (arith, ints, few)), ((omega (arith, ints), omega (arith, ints, here)), tt))
    (times_fit_from (n + 1) times (omega arith) (omega (arith, few)) (λ k d h. small (suc k) d (omega (arith, h))))

pub times_fit : (times : List ℕ) → length times ≤ 100000
    → All (λ time. time ≤ LATEST) times → All TimeFits (time_rows times)
times_fit times few small = times_fit_from 1 times (omega arith) (omega (arith, few)) small

abbrev pub ReasonFits : ReasonRow → Type 0
ReasonFits row = InColumns reasons_columns (reason_cells row)

abbrev pub reasons_from : ℕ → List Reason → List ReasonRow
reasons_from n reasons = map (λ at. record { event = at.0; reason = at.1 }) (enumerate_from n reasons)

place_below : (why : Reason) → reason_place why < 3
place_below reason.Source = omega arith
place_below (reason.Activity id) = omega arith
place_below reason.Turn = omega arith

reasons_fit_from : (n : ℕ) (reasons : List Reason) → 1 ≤ n → n + length reasons ≤ 100001
    → All (λ reason. named_activity reason ≤ 500000) reasons → All ReasonFits (reasons_from n reasons)
reasons_fit_from n [] some few small = All-nil ReasonFits
reasons_fit_from n (why ∷ reasons) some few small =
    let here : named_activity why ≤ 500000 = small 0 why (omega arith) in
    let row : ReasonRow = record { event = n; reason = why } in
    All-cons ReasonFits row (reasons_from (n + 1) reasons) (
      (omega (arith, ints, some), omega (arith, ints, few)),
      ((reason_place why, place_below why, refl), ((omega (arith, ints), omega (arith, ints, here)), tt)),
    )
    (reasons_fit_from (n + 1) reasons (omega arith) (omega (arith, few)) (λ k d h. small (suc k) d (omega (arith, h))))

pub reasons_fit : (reasons : List Reason) → length reasons ≤ 100000
    → All (λ reason. named_activity reason ≤ 500000) reasons → All ReasonFits (reason_rows reasons)
reasons_fit reasons few small = reasons_fit_from 1 reasons (omega arith) (omega (arith, few)) small

pub reason_table_fits : (reasons : List Reason) → All ReasonFits (reason_rows reasons)
    → All (λ row. InColumns reasons_columns row.cells) (rows_by reason_cells (reason_rows reasons))
reason_table_fits reasons fit =
    All-map (λ (row : TableRow). InColumns reasons_columns row.cells)
    (λ row. record { number = 0; cells = reason_cells row }) (reason_rows reasons) fit
