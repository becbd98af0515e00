-- The rows of a concept give back its frequencies.
use Rattle.plan_num.proofs.Common.{◌≡◌, ℕ, suc, ℤ, pos, ◌+◌, ◌<◌, Bool, false, List, [], ◌∷◌, ◌++◌}
use Rattle.plan_num.proofs.Common.{length, map, find, zip, Some, None, All, refl, arith}
use Rattle.plan_num.proofs.Common.{append_assoc, get_or, option_map, unwrap_or, AllByRecursion}
use Rattle.plan_num.proofs.Common.{enumerate_from, flat_map, int_cmp, int_eq}
use Rattle.std.specs.List.Sorted.{IsStrictlySortedBy}
use Rattle.std.specs.declared.cmp.Ordering.TheVariants.{Less}
use Rattle.std.proofs.lemmas.List.Folds.{find-append as find_both}
use Rattle.tables.proofs.Common.{TableRow}
use Rattle.line_cost_model.proofs.Common.{CostedLine, IsCostedLine, IsProblem, ProblemParts}
use Rattle.line_search.specs.ConceptTables.{concept_rows, frequencies_in, frequency_in, line_rows}
use Rattle.line_search.specs.ConceptTables.{frequency_of_row, row_at}
use Rattle.plan_num.proofs.Tests.{above_differs}

-- the row of a line
abbrev is_of : ℤ → TableRow → Bool
is_of line row = int_eq line (get_or row.cells 0 (pos 0))

-- no row is of one of some lines
abbrev NoneOf : List TableRow → List ℤ → Type 0
NoneOf before ids = AllByRecursion (λ line. find (is_of line) before ≡ None) ids

module _ (problem : ProblemParts) where
  -- the rows of a line are not of another one
  none_at : (line id : ℤ) (frequency n : ℕ) (edges : List ℕ) → int_eq line id ≡ false
      → find (is_of line) (map (row_at problem id frequency) (enumerate_from n edges)) ≡ None
  none_at line id frequency n [] differs = refl
  none_at line id frequency n (edge ∷ edges) differs =
      grind (arith, none_at line id frequency (n + 1) edges differs)

  none_more : (before : List TableRow) (line : CostedLine) (frequency : ℕ) (ids : List ℤ)
      → AllByRecursion (λ other. int_cmp line.id other ≡ Less) ids → NoneOf before ids
      → NoneOf (before ++ line_rows problem line frequency) ids
  none_more before line frequency [] above none = tt
  none_more before line frequency (id ∷ ids) above none =
      grind (
        arith,
        find_both,
        none_at,
        above_differs,
        none_more before line frequency ids above.1 none.1,
      )

  -- the first row of a line
  first_row : (id : ℤ) (frequency : ℕ) (edges : List ℕ) (behind : List TableRow) → 0 < length edges
      → option_map frequency_of_row
      (find (is_of id) (map (row_at problem id frequency) (enumerate_from 1 edges) ++ behind))
      ≡ Some frequency
  first_row id frequency [] behind some = absurd (omega (arith, some))
  first_row id frequency (edge ∷ edges) behind some = grind arith

  abbrev rows_for : List CostedLine → List ℕ → List TableRow
  rows_for lines frequencies =
      flat_map (λ at. line_rows problem at.0 at.1) (zip lines frequencies)

  first_is : (before : List TableRow) (line : CostedLine) (frequency : ℕ) (behind : List TableRow)
      → 0 < length line.edges → find (is_of line.id) before ≡ None
      → frequency_in (before ++ (line_rows problem line frequency ++ behind)) line.id ≡ frequency
  first_is before line frequency behind some none =
      grind (arith, unwrap_or, option_map, find_both, first_row)

  given_back : (before : List TableRow) (lines : List CostedLine) (frequencies : List ℕ)
      → length frequencies ≡ length lines
      → IsStrictlySortedBy int_cmp (map (λ line. line.id) lines)
      → AllByRecursion (λ line. 0 < length line.edges) lines
      → NoneOf before (map (λ line. line.id) lines)
      → map (λ line. frequency_in (before ++ rows_for lines frequencies) line.id) lines ≡ frequencies
  unfolding IsStrictlySortedBy
  given_back before [] [] each rise some none = refl
  given_back before [] (frequency ∷ frequencies) each rise some none = absurd (omega (arith, each))
  given_back before (line ∷ lines) [] each rise some none = absurd (omega (arith, each))
  given_back before (line ∷ lines) (frequency ∷ frequencies) each rise some none =
      let behind = rows_for lines frequencies in
      let now = before ++ line_rows problem line frequency in grind (
        arith,
        first_is,
        none_more,
        append_assoc,
        given_back now lines frequencies (omega (arith, each)) rise.1 some.1
            (none_more before line frequency (map (λ (line : CostedLine). line.id) lines) rise.0
            none.1),
      )

  none_yet : (ids : List ℤ) → NoneOf [] ids
  none_yet [] = tt
  none_yet (id ∷ ids) = (refl, none_yet ids)

  some_edges : (lines : List CostedLine) → All (IsCostedLine (length problem.edges)) lines
      → AllByRecursion (λ line. 0 < length line.edges) lines
  some_edges [] own = tt
  some_edges (line ∷ lines) own = (
    (own 0 line (omega arith)).some,
    some_edges lines (λ k d h. own (suc k) d (omega (arith, h))),
  )

  -- the frequencies of the rows of a concept are the concept
  pub frequencies_back : IsProblem problem → (frequencies : List ℕ)
      → length frequencies ≡ length problem.lines
      → frequencies_in problem (concept_rows problem frequencies) ≡ frequencies
  frequencies_back sound frequencies each =
      given_back [] problem.lines frequencies each sound.lines_rise
      (some_edges problem.lines sound.lines) (none_yet (map (λ line. line.id) problem.lines))
