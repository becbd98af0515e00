-- The rows of lines give back these lines.
use Rattle.plan_num.proofs.Common.{◌≡◌, ℕ, ℤ, zero, suc, ◌+◌, ◌<◌, List, [], ◌∷◌, ◌++◌, length, map}
use Rattle.plan_num.proofs.Common.{All, refl, ap, sym, ◌∙◌, arith, append-nil, append_assoc, get_or}
use Rattle.plan_num.proofs.Common.{map-id, nat_lt, unwrap_or, AllByRecursion, list_any}
use Rattle.plan_num.proofs.Common.{position_or_len, IsSorted, int_cmp, int_eq, is_lt}
use Rattle.plan_num.proofs.Common.{ordering_reverse, lt-ltb, int_cmp_total, map-append}
use Rattle.plan_num.proofs.Common.{filter-append, list_any-append, map-map}
use Rattle.std.specs.List.Sorted.{IsStrictlySortedBy}
use Rattle.std.specs.declared.cmp.Ordering.TheVariants.{Less}
use Rattle.tables.proofs.Common.{pool_columns, table_of, TableRow, ReadsBack}
use Rattle.walks.specs.declared.edge.Edge.{Edge}
use Rattle.walks.proofs.Common.{NetworkParts, rising, sorted_ids}
use Rattle.line_walks.specs.declared.line_row.LineRow.{LineRow}
use Rattle.line_walks.specs.Pools.{LineParts, index_of, line_of, line_row, lines_of, lines_over}
use Rattle.line_walks.specs.Pools.{pool_of}
use Rattle.line_walks.specs.Pools.{rows_of}
use Rattle.line_walks.proofs.WalkLines.{AreNew, IsWalked, RowsLine, distinct, ids_for, new_more}
use Rattle.line_walks.proofs.WalkLines.{none_yet, rows_at, rows_for, told_rows}
use Rattle.line_walks.proofs.WalkRows.{below_differs, id_at, later_above}
use Rattle.line_walks.proofs.WalkRows.{other_rows, own_rows, rows_from}
use Rattle.plan_num.proofs.Tests.{or_false, above_differs}

-- a line has an edge
abbrev pub HasEdge : RowsLine → Type 0
HasEdge line = 0 < length line.edges

-- ---- the index of an edge by its id

first_place : (edges : List Edge) (index : ℕ)
    → IsStrictlySortedBy int_cmp (map (λ edge. edge.id) edges) → index < length edges
    → position_or_len (λ edge. int_eq (id_at edges index) edge.id) edges ≡ index
unfolding IsStrictlySortedBy
first_place [] index rise h = absurd (omega (arith, h))
first_place (edge ∷ edges) zero rise h = grind arith
first_place (edge ∷ edges) (suc index) rise h =
    grind (
      arith,
      id_at,
      above_differs,
      later_above,
      first_place edges index rise.1 (omega (arith, h)),
    )

pub index_back : (edges : List Edge) (index : ℕ)
    → IsStrictlySortedBy int_cmp (map (λ edge. edge.id) edges) → index < length edges
    → index_of edges (id_at edges index) ≡ index
index_back edges index rise h =
    let first = first_place edges index rise h in grind (arith, nat_lt, id_at, lt-ltb, unwrap_or)

module _ (edges : List Edge) (rise : IsStrictlySortedBy int_cmp (map (λ edge. edge.id) edges)) where
  -- ---- the edges of lines

  abbrev edges_in : List LineRow → List ℕ
  edges_in rows = map (λ row. index_of edges row.edge) rows

  own_edges : (id : ℤ) (frequency n : ℕ) (indexes : List ℕ)
      → All (λ index. index < length edges) indexes
      → edges_in (rows_from edges id frequency n indexes) ≡ indexes
  own_edges id frequency n [] there = refl
  own_edges id frequency n (index ∷ indexes) there =
      ap (λ first. first ∷ edges_in (rows_from edges id frequency (n + 1) indexes))
      (index_back edges index rise (there 0 index (omega arith)))
      ∙ ap (λ more. index ∷ more) (own_edges id frequency (n + 1) indexes
      (λ k d h. there (suc k) d (omega (arith, h))))

  none_later : (id : ℤ) (lines : List RowsLine)
      → AllByRecursion (λ other. int_cmp id other ≡ Less) (ids_for lines)
      → rows_of id (rows_for edges lines) ≡ []
  none_later id [] above = refl
  none_later id (line ∷ lines) above =
      grind (
        arith,
        rows_at,
        filter-append,
        rows_for,
        other_rows,
        below_differs,
        none_later id lines above.1,
      )

  rows_back : (before : List LineRow) (line : RowsLine) (lines : List RowsLine)
      → rows_of line.id before ≡ []
      → AllByRecursion (λ other. int_cmp line.id other ≡ Less) (ids_for lines)
      → rows_of line.id (before ++ rows_at edges line ++ rows_for edges lines)
      ≡ rows_at edges line
  rows_back before line lines none above =
      grind (arith, rows_at, rows_for, filter-append, none_later, append-nil, own_rows)

  all_edges : (before : List LineRow) (lines : List RowsLine)
      → IsStrictlySortedBy int_cmp (ids_for lines) → AreNew edges rise before (ids_for lines)
      → AllByRecursion (IsWalked edges) lines
      → map (λ id. edges_in (rows_of id (before ++ rows_for edges lines))) (ids_for lines)
      ≡ map (λ line. line.edges) lines
  unfolding IsStrictlySortedBy
  all_edges before [] up new good = refl
  all_edges before (line ∷ lines) up new good =
      let own = rows_at edges line in grind (
        arith,
        rows_for,
        append_assoc,
        ids_for,
        rows_back,
        own_edges,
        new_more,
        all_edges (before ++ own) lines up.1 (new_more edges rise before line
            (ids_for lines) up.0 new.1) good.1,
      )

  -- ---- the ids of lines

  line_of_rows : (q id : ℤ) (frequency n : ℕ) (indexes : List ℕ) → 0 < length indexes
      → list_any (int_eq q) (map (λ row. row.line) (rows_from edges id frequency n indexes))
      ≡ int_eq q id
  line_of_rows q id frequency n [] some = absurd (omega (arith, some))
  line_of_rows q id frequency n (index ∷ []) some = or_false (int_eq q id)
  line_of_rows q id frequency n (index ∷ other ∷ indexes) some = grind (
    arith,
    line_of_rows q id
        frequency (n + 1) (other ∷ indexes) (omega arith),
  )

  same_ids : (q : ℤ) (lines : List RowsLine) → AllByRecursion HasEdge lines
      → list_any (int_eq q) (ids_for lines)
      ≡ list_any (int_eq q) (map (λ row. row.line) (rows_for edges lines))
  same_ids q [] some = refl
  same_ids q (line ∷ lines) some =
      grind (
        arith,
        rows_at,
        rows_for,
        line_of_rows,
        list_any-append,
        map-append,
        same_ids q lines some.1,
      )

-- ids that rise are sorted
below_sorts : (ids : List ℤ) → IsStrictlySortedBy int_cmp ids → IsSorted int_cmp ids
unfolding IsStrictlySortedBy
below_sorts [] rise k d low h = absurd (omega (arith, h))
below_sorts (id ∷ []) rise k d low h = absurd (omega (arith, h))
below_sorts (id ∷ next ∷ ids) rise zero d low h =
    ap is_lt (int_cmp_total.antisymm next id ∙ ap ordering_reverse rise.0.0)
below_sorts (id ∷ next ∷ ids) rise (suc k) d low h =
    grind (arith, get_or, below_sorts (next ∷ ids) rise.1 k d (omega arith) (omega (arith, h)))

module _ (edges : List Edge) (rise : IsStrictlySortedBy int_cmp (map (λ edge. edge.id) edges))
    (lines : List RowsLine) (up : IsStrictlySortedBy int_cmp (ids_for lines))
    (some : AllByRecursion HasEdge lines) where
  ids_rising : rising (map (λ row. row.line) (rows_for edges lines)) ≡ ids_for lines
  ids_rising = grind (arith, sorted_ids, ids_for, rows_for, below_sorts, distinct, same_ids)

  -- the ids of lines are read back from their rows
  pub ids_back : map (λ line. line.id) (lines_over edges (rows_for edges lines)) ≡ ids_for lines
  ids_back = grind (arith, rows_for, map-map, map-id, ids_rising)

  -- and so are their edges
  pub edges_back : AllByRecursion (IsWalked edges) lines
      → map (λ line. line.edges) (lines_over edges (rows_for edges lines))
      ≡ map (λ line. line.edges) lines
  edges_back good =
      let rows = rows_for edges lines in
      map-map (λ (line : LineParts). line.edges) (line_of edges rows)
      (rising (map (λ row. row.line) rows))
      ∙ ap (map (λ id. edges_in edges rise (rows_of id rows))) ids_rising
      ∙ all_edges edges rise [] lines up (none_yet edges rise (ids_for lines)) good

-- the lines of a pool whose text is read back as rows of lines
pub pool_back : (network : NetworkParts) (lines : List RowsLine) (table : List TableRow)
    (text : List ℕ) → told_rows table ≡ rows_for network.edges lines
    → ReadsBack pool_columns table text
    → pool_of network text ≡ lines_over network.edges (rows_for network.edges lines)
unfolding lines_of
pool_back network lines table text are back =
    ap (lines_over network.edges)
    (sym (map-map line_row (λ (row : TableRow). row.cells) (table_of pool_columns text))
    ∙ ap (map line_row) back.1
    ∙ map-map line_row (λ (row : TableRow). row.cells) table
    ∙ are)
