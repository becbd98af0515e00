-- How many rows a concept has.
use Rattle.plan_num.proofs.Common.{◌≡◌, ℕ, ◌+◌, ◌-◌, ◌<◌, ◌≤◌, false, nat_eq, ℤ, List, [], ◌∷◌}
use Rattle.plan_num.proofs.Common.{length, drop, get_or, slice_get, zip, refl, ap, sym, ◌∙◌, arith}
use Rattle.plan_num.proofs.Common.{Some, option_map, pos, flat_map, int_eq, eq-eqb, eqb-true}
use Rattle.plan_num.proofs.Common.{false≢true, ne_eqb, false_from_ne_true, at_drop_more}
use Rattle.plan_num.proofs.Common.{length-append, length-map, length-enumerate_from, same_Some}
use Rattle.plan_num.proofs.Common.{slice_get-get_or, signed_items, pointwise, pointwise_decides}
use Rattle.tables.proofs.Common.{TableRow}
use Rattle.line_cost_model.proofs.Common.{CostedLine, ProblemParts}
use Rattle.line_search.specs.ConceptTables.{concept_rows, line_rows, row_count}
use Rattle.line_search.specs.Judged.{same_cells}

no_line : CostedLine
no_line = record { id = pos 0; cost = 0; edges = [] }

-- ---- the rows that are left

rows_behind : (lines : List CostedLine) (i : ℕ) (edges : List ℕ) → i < length lines
    → option_map (λ at. at.edges) (slice_get lines i) ≡ Some edges
    → row_count (drop i lines) ≡ length edges + row_count (drop (i + 1) lines)
rows_behind lines i edges there is =
    let own : (get_or lines i no_line).edges ≡ edges =
    same_Some _ _ (sym (ap (option_map (λ at. at.edges)) (slice_get-get_or lines i no_line there))
    ∙ is) in
    at_drop_more row_count lines i no_line there
    ∙ ap (λ edges. length edges + row_count (drop (i + 1) lines)) own

same_test : (a b c d : ℕ) → (a ≡ b → c ≡ d) → (c ≡ d → a ≡ b) → nat_eq a b ≡ nat_eq c d
same_test a b c d there back = grind (arith, nat_eq, false≢true, eq-eqb, eqb-true)

module _ (lines : List CostedLine) (i left : ℕ) (edges : List ℕ) (there : i < length lines)
    (is : option_map (λ at. at.edges) (slice_get lines i) ≡ Some edges) where
  pub too_few : left < length edges → nat_eq left (row_count (drop i lines)) ≡ false
  too_few less = grind (arith, rows_behind, ne_eqb)

  pub line_passed : length edges ≤ left → nat_eq left (row_count (drop i lines))
      ≡ nat_eq (left - length edges) (row_count (drop (i + 1) lines))
  line_passed enough = grind (arith, rows_behind, same_test)

-- ---- the rows of a concept

rows_of_all : (problem : ProblemParts) (lines : List CostedLine) (frequencies : List ℕ)
    → length frequencies ≡ length lines
    → length (flat_map (λ at. line_rows problem at.0 at.1) (zip lines frequencies))
    ≡ row_count lines
rows_of_all problem [] frequencies each = refl
rows_of_all problem (line ∷ lines) [] each = absurd (omega (arith, each))
rows_of_all problem (line ∷ lines) (frequency ∷ frequencies) each =
    grind (
      arith,
      length-append,
      length-map,
      length-enumerate_from,
      rows_of_all problem lines frequencies (omega (arith, each)),
    )

pub concept_long : (problem : ProblemParts) (frequencies : List ℕ)
    → length frequencies ≡ length problem.lines
    → length (concept_rows problem frequencies) ≡ row_count problem.lines
concept_long problem frequencies each = rows_of_all problem problem.lines frequencies each

-- lists of other lengths are others
pub other_lists : (xs ys : List (List ℤ)) → nat_eq (length xs) (length ys) ≡ false
    → false ≡ pointwise (pointwise int_eq) xs ys
other_lists xs ys differ = sym (false_from_ne_true _ (λ e.
    let same : xs ≡ ys = (pointwise_decides {E = pointwise int_eq} signed_items xs ys).0 e in
    false≢true (sym differ ∙ eq-eqb (length xs) (length ys) (ap length same))))

-- and so are rows of another number
pub other_cells : (rows other : List TableRow) → nat_eq (length rows) (length other) ≡ false
    → false ≡ same_cells rows other
other_cells rows other differ = grind (arith, other_lists, nat_eq, length-map)
