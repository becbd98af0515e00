-- The frequency of the first row of a line, among some rows and one more.
use Rattle.plan_num.proofs.Common.{◌≡◌, ℕ, ℤ, ◌+◌, ◌<◌, cond, List, [], ◌∷◌, ◌++◌, arith, length}
use Rattle.plan_num.proofs.Common.{take, get_or, Option, Some, None, ap, sym, ◌∙◌, option_or}
use Rattle.plan_num.proofs.Common.{int_eq, cases_Bool}
use Rattle.tables.proofs.Common.{TableRow, no_row, records_more}
use Rattle.line_walks.specs.Pools.{differs}
use Rattle.line_search.specs.PinnedConcepts.{first_of_line, frequency_at, line_in, pinned_input}
use Rattle.line_search.specs.PinnedConcepts.{rows_with, same_frequency}
use Rattle.line_search.specs.PoolPlaces.{plain_rows}

-- with one row more, a line has its first row among the others, or else that is it
pub first_more : (rows : List TableRow) (row : TableRow) (line : ℤ)
    → first_of_line (rows_with (rows ++ row ∷ []) line)
    ≡ option_or (first_of_line (rows_with rows line))
    (cond (int_eq line (line_in row)) (Some (frequency_at row)) None)
first_more [] row line = grind arith
first_more (first ∷ rows) row line = grind (arith, cases_Bool, first_more rows row line)

-- the test of a row by what is known of its line
pub is_other : (before : List TableRow) (row : TableRow) (known : ℤ → Option ℤ)
    → ((line : ℤ) → known line ≡ first_of_line (rows_with before line))
    → (line frequency : ℤ) → line ≡ line_in row → frequency ≡ frequency_at row
    → differs frequency (known line) ≡ same_frequency.is_broken before row
is_other before row known knows line frequency own at = grind arith

-- what is known of the lines behind one row more
pub known_more : (rows : List TableRow) (i : ℕ) → i < length rows → (known new : ℤ → Option ℤ)
    → ((line : ℤ) → known line ≡ first_of_line (rows_with (plain_rows (take i rows)) line))
    → (line frequency : ℤ) → line ≡ line_in (get_or rows i no_row)
    → frequency ≡ frequency_at (get_or rows i no_row)
    → ((other : ℤ)
    → new other ≡ option_or (known other) (cond (int_eq other line) (Some frequency) None))
    → (other : ℤ) → new other ≡ first_of_line (rows_with (plain_rows (take (i + 1) rows)) other)
known_more rows i h known new knows line frequency own at more other =
    let before = plain_rows (take i rows) in
    let row : TableRow = record { number = 0; cells = (get_or rows i no_row).cells } in
    more other
    ∙ ap (λ some. option_or some (cond (int_eq other line) (Some frequency) None)) (knows other)
    ∙ (λ j. option_or (first_of_line (rows_with before other))
    (cond (int_eq other (own j)) (Some (at j)) None))
    ∙ sym (first_more before row other)
    ∙ ap (λ rows. first_of_line (rows_with rows other))
    (sym (records_more (pinned_input (record { edges = []; lines = [] })) rows i h))
