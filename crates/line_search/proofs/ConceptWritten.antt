-- The rows of a concept can be written, and what it costs can be printed.
use Rattle.plan_num.proofs.Common.{◌≡◌, ℕ, ℤ, suc, pos, ◌+◌, ◌*◌, ◌≤◌, ◌<◌, ◌≤ℤ◌, ◌∙◌, nat_eq, true}
use Rattle.plan_num.proofs.Common.{List, [], ◌∷◌, length, map, zip, sum_by, arith, ap, All, Result}
use Rattle.plan_num.proofs.Common.{Ok, Err, IfOk, to_z, of_z, w128, enumerate_from, flat_map}
use Rattle.plan_num.proofs.Common.{list_any, eqb-true, ints, All-nil, All-cons, All-append}
use Rattle.plan_num.proofs.Common.{sum_by-cons, length-le_from_distinct_below, mul-le}
use Rattle.plan_num.proofs.Common.{Any-from_list_any}
use Rattle.tables.proofs.Common.{concept_columns, TableRow, InColumns, table_text}
use Rattle.line_cost_model.proofs.Common.{cost_of, CostedLine, IsCostedLine, IsId, IsProblem}
use Rattle.line_cost_model.proofs.Common.{ProblemParts, few_edges, few_lines}
use Rattle.branch_certificate.proofs.WriteInside.{edge_there}
use Rattle.line_search.specs.ConceptTables.{concept_header, concept_text, concept_rows, line_rows}
use Rattle.line_search.specs.ConceptTables.{row_at}

abbrev InConcept : TableRow → Type 0
InConcept row = InColumns concept_columns row.cells

-- ---- the edges of a line

one_below : (edges : List ℕ) (n : ℕ) → All (λ edge. edge < n) edges → (edge : ℕ)
    → list_any (nat_eq edge) edges ≡ true → edge < n
one_below edges n all edge is = grind (arith, Any-from_list_any, nat_eq, eqb-true)

module _ (problem : ProblemParts) (sound : IsProblem problem) where
  few_places : (line : CostedLine) → IsCostedLine (length problem.edges) line
      → length line.edges ≤ 1000000000
  few_places line own =
      let few = length-le_from_distinct_below line.edges (length problem.edges) own.distinct
      (λ edge is. one_below line.edges (length problem.edges) own.there edge is) in
      omega (arith, few, few_edges problem sound)

  -- the row of one edge
  cell_row : (id : ℤ) (frequency place edge : ℕ) → IsId id → frequency ≤ 1000 → 1 ≤ place
      → place ≤ 1000000000 → edge < length problem.edges
      → InConcept (row_at problem id frequency (place, edge))
  cell_row id frequency place edge is few low high there =
      let own = edge_there problem sound edge there in grind (arith, ints)

  edge_rows : (id : ℤ) (frequency n : ℕ) (edges : List ℕ) → IsId id → frequency ≤ 1000 → 1 ≤ n
      → n + length edges ≤ 1000000001 → All (λ edge. edge < length problem.edges) edges
      → All InConcept (map (row_at problem id frequency) (enumerate_from n edges))
  edge_rows id frequency n [] is few low high there = All-nil InConcept
  edge_rows id frequency n (edge ∷ edges) is few low high there =
      All-cons InConcept _ _
      (cell_row id frequency n edge is few low (omega (arith, high)) (there 0 edge (omega arith)))
      (edge_rows id frequency (n + 1) edges is few (omega (arith, low)) (omega (arith, high))
      (λ k d h. there (suc k) d (omega (arith, h))))

  lines_in : (lines : List CostedLine) (frequencies : List ℕ)
      → All (IsCostedLine (length problem.edges)) lines
      → All (λ frequency. frequency ≤ 1000) frequencies
      → All InConcept (flat_map (λ at. line_rows problem at.0 at.1) (zip lines frequencies))
  lines_in [] frequencies own few = All-nil InConcept
  lines_in (line ∷ lines) [] own few = All-nil InConcept
  lines_in (line ∷ lines) (frequency ∷ frequencies) own few =
      let first = own 0 line (omega arith) in
      All-append InConcept (line_rows problem line frequency) _
      (edge_rows line.id frequency 1 line.edges first.id (few 0 frequency (omega arith))
      (omega arith) (omega (arith, few_places line first)) first.there)
      (lines_in lines frequencies (λ k d h. own (suc k) d (omega (arith, h)))
      (λ k d h. few (suc k) d (omega (arith, h))))

  -- the rows of a concept are in their columns
  pub concept_inside : (frequencies : List ℕ) → All (λ frequency. frequency ≤ 1000) frequencies
      → All InConcept (concept_rows problem frequencies)
  concept_inside frequencies few = lines_in problem.lines frequencies sound.lines few

  -- ---- costs

  lines_cost : (lines : List CostedLine) (frequencies : List ℕ)
      → All (IsCostedLine (length problem.edges)) lines
      → All (λ frequency. frequency ≤ 1000) frequencies
      → sum_by (λ at. at.0.cost * at.1) (zip lines frequencies)
      ≤ 1000000000000000000000 * length lines
  lines_cost [] frequencies own few = omega arith
  lines_cost (line ∷ lines) [] own few = omega arith
  lines_cost (line ∷ lines) (frequency ∷ frequencies) own few =
      let one : line.cost * frequency ≤ 1000000000000000000 * 1000 =
      mul-le line.cost frequency 1000000000000000000 1000 (own 0 line (omega arith)).cheap
      (few 0 frequency (omega arith)) in
      let rest = lines_cost lines frequencies (λ k d h. own (suc k) d (omega (arith, h)))
      (λ k d h. few (suc k) d (omega (arith, h))) in
      omega (
        arith,
        one,
        rest,
        sum_by-cons (λ (at : CostedLine × ℕ). at.0.cost * at.1) (line, frequency)
            (zip lines frequencies),
      )

  pub modest_cost : (frequencies : List ℕ) → All (λ frequency. frequency ≤ 1000) frequencies
      → cost_of problem frequencies ≤ 10000000000000000000000000000000000000
  modest_cost frequencies few =
      omega (arith, lines_cost problem.lines frequencies sound.lines few, few_lines problem sound)

-- a text of the rows of a concept is its text
pub concept_told : {E : Type 0} (problem : ProblemParts) (frequencies : List ℕ) (table : List TableRow)
    → table ≡ concept_rows problem frequencies → (result : Result (List ℕ) E)
    → IfOk result (λ text. text ≡ table_text concept_header concept_columns table)
    → IfOk result (λ text. text ≡ concept_text problem frequencies)
unfolding concept_text
concept_told problem frequencies table is (Ok text) told =
    told ∙ ap (table_text concept_header concept_columns) is
concept_told problem frequencies table is (Err error) told = tt

-- a cost that is handed on
pub cost_handed : (cost : ℤ) (own : ℕ) → cost ≡ pos own
    → own ≤ 10000000000000000000000000000000000000
    → to_z w128 (of_z w128 cost) ≤ℤ pos 10000000000000000000000000000000000000
cost_handed cost own is few = grind arith
