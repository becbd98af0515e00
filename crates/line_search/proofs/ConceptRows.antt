-- The rows of a concept, line by line and edge by edge.
use Rattle.plan_num.proofs.Common.{◌≡◌, ℕ, suc, ℤ, pos, ◌+◌, ◌<◌, ◌≤◌, arith, List, [], ◌∷◌, ◌++◌}
use Rattle.plan_num.proofs.Common.{length, map, take, get_or, slice_get, zip, refl, ap, subst, ◌∙◌}
use Rattle.plan_num.proofs.Common.{Option, Some, None, option_map, All, flat_map, enumerate_from}
use Rattle.plan_num.proofs.Common.{flat_map-append, take_more, take_all, map_push, append-nil}
use Rattle.plan_num.proofs.Common.{All-get_or, length-enumerate_from, get_or-enumerate_from}
use Rattle.plan_num.proofs.Common.{same_Some, slice_get_within, get_or_from_slice_get}
use Rattle.plan_num.proofs.Common.{slice_get-get_or, get_or-zip}
use Rattle.tables.proofs.Common.{TableRow}
use Rattle.line_cost_model.proofs.Common.{CostedLine, ProblemParts, IsProblem, IsCostedLine, IsId}
use Rattle.line_search.specs.ConceptTables.{row_at, line_rows, concept_rows}

no_line : CostedLine
no_line = record { id = pos 0; cost = 0; edges = [] }

-- as many pairs as there are of each
pub zip_length : {A B : Type 0} (xs : List A) (ys : List B) → length ys ≡ length xs
    → length (zip xs ys) ≡ length xs
zip_length [] ys same = refl
zip_length (x ∷ xs) [] same = absurd (omega (arith, same))
zip_length (x ∷ xs) (y ∷ ys) same = ap suc (zip_length xs ys (omega (arith, same)))

module _ (problem : ProblemParts) where
  -- a line of the problem
  own_line : IsProblem problem → (line : ℕ) (at : CostedLine)
      → slice_get problem.lines line ≡ Some at → IsCostedLine (length problem.edges) at
  own_line sound line at found =
      grind (arith, get_or_from_slice_get, no_line, All-get_or, slice_get_within)

  -- its id is one
  pub id_within : (line : ℕ) (row : ℤ × ℤ)
      → option_map (λ at. (at.id, pos at.cost)) (slice_get problem.lines line) ≡ Some row
      → IsProblem problem → IsId row.0
  id_within line row is sound = one (slice_get problem.lines line) refl is
    where
      one : (found : Option CostedLine) → slice_get problem.lines line ≡ found
          → option_map (λ at. (at.id, pos at.cost)) found ≡ Some row → IsId row.0
      one None at is = cc
      one (Some at) found is = subst (λ (row : ℤ × ℤ). IsId row.0) (same_Some _ _ is)
          (own_line sound line at found).id

  -- ---- one line

  module _ (id : ℤ) (frequency : ℕ) (edges : List ℕ) where
    abbrev pub rows_to : ℕ → List TableRow
    rows_to i = map (row_at problem id frequency) (take i (enumerate_from 1 edges))

    pub rows_more : (i : ℕ) → i < length edges
        → rows_to (i + 1) ≡ rows_to i ++ row_at problem id frequency (i + 1, get_or edges i 0) ∷ []
    rows_more i lt =
        let long = length-enumerate_from 1 edges in
        let at : get_or (enumerate_from 1 edges) i (0, 0) ≡ (1 + i, get_or edges i 0) =
        get_or-enumerate_from 1 edges i (0, 0) lt in
        let place : 1 + i ≡ i + 1 = omega arith in
        ap (map (row_at problem id frequency)) (take_more (enumerate_from 1 edges) i (0, 0)
        (omega (arith, long)))
        ∙ map_push (row_at problem id frequency) (take i (enumerate_from 1 edges))
        (get_or (enumerate_from 1 edges) i (0, 0))
        ∙ ap (λ at. rows_to i ++ row_at problem id frequency at ∷ []) at
        ∙ ap (λ n. rows_to i ++ row_at problem id frequency (n, get_or edges i 0) ∷ []) place

    pub rows_whole : (i : ℕ) → length edges ≤ i
        → rows_to i ≡ map (row_at problem id frequency) (enumerate_from 1 edges)
    rows_whole i past = ap (map (row_at problem id frequency)) (take_all i (enumerate_from 1 edges)
        (omega (arith, length-enumerate_from 1 edges)))

  module _ (line : ℕ) (row : ℤ × ℤ) (edges : List ℕ)
      (is : option_map (λ at. (at.id, pos at.cost)) (slice_get problem.lines line) ≡ Some row)
      (over : option_map (λ at. at.edges) (slice_get problem.lines line) ≡ Some edges) where
    -- the rows of the line of a place
    pub line_is : (frequency : ℕ) (old table : List TableRow)
        → table ≡ old ++ map (row_at problem row.0 frequency) (enumerate_from 1 edges)
        → option_map (λ at. old ++ line_rows problem at frequency) (slice_get problem.lines line)
        ≡ Some table
    line_is frequency old table made = grind (arith, slice_get, option_map, same_Some)

    -- its edges are there
    pub edges_there : IsProblem problem → All (λ edge. edge < length problem.edges) edges
    edges_there sound = one (slice_get problem.lines line) refl over
      where
        one : (found : Option CostedLine) → slice_get problem.lines line ≡ found
            → option_map (λ at. at.edges) found ≡ Some edges
            → All (λ edge. edge < length problem.edges) edges
        one None at over = cc
        one (Some at) found over = subst (All (λ edge. edge < length problem.edges))
            (same_Some _ _ over) (own_line sound line at found).there

  -- ---- all lines

  module _ (frequencies : List ℕ) where
    abbrev pub rows_of_lines : ℕ → List TableRow
    rows_of_lines i =
        flat_map (λ at. line_rows problem at.0 at.1) (take i (zip problem.lines frequencies))

    -- one line more
    pub lines_more : (i : ℕ) (table : List TableRow) → length frequencies ≡ length problem.lines
        → i < length problem.lines
        → option_map (λ at. rows_of_lines i ++ line_rows problem at (get_or frequencies i 0))
        (slice_get problem.lines i) ≡ Some table
        → table ≡ rows_of_lines (i + 1)
    lines_more i table each lt is =
        let both = zip problem.lines frequencies in
        let at : get_or both i (no_line, 0)
        ≡ (get_or problem.lines i no_line, get_or frequencies i 0) =
        get_or-zip problem.lines frequencies i (no_line, 0) lt (omega (arith, each)) in
        let more : rows_of_lines (i + 1) ≡ rows_of_lines i
        ++ line_rows problem (get_or problem.lines i no_line) (get_or frequencies i 0) =
        ap (flat_map (λ at. line_rows problem at.0 at.1)) (take_more both i (no_line, 0)
        (omega (arith, each, lt, zip_length problem.lines frequencies each)))
        ∙ flat_map-append (λ at. line_rows problem at.0 at.1) (take i both)
        (get_or both i (no_line, 0) ∷ [])
        ∙ ap (λ at. rows_of_lines i ++ (line_rows problem at.0 at.1 ++ [])) at
        ∙ ap (λ some. rows_of_lines i ++ some) (append-nil _) in grind (
          arith,
          same_Some,
          option_map,
          get_or,
          slice_get-get_or,
          no_line,
        )

    pub lines_whole : (i : ℕ) → length frequencies ≡ length problem.lines
        → length problem.lines ≤ i → rows_of_lines i ≡ concept_rows problem frequencies
    lines_whole i each past = grind (arith, take_all, zip_length)
