-- The text of a pool is read back as its lines.
use Rattle.plan_num.proofs.Common.{◌≡◌, ℕ, ℤ, pos, suc, ◌+◌, ◌<◌, ◌≤◌, true, nat_lt, List, [], ◌∷◌}
use Rattle.plan_num.proofs.Common.{length, map, All, Option, Some, None, is_some, option_map}
use Rattle.plan_num.proofs.Common.{option_and_then, inl, inr, refl, ap, ◌∙◌, arith, AllByRecursion}
use Rattle.plan_num.proofs.Common.{enumerate_from, flat_map, range_with_len, int_cmp, lt-ltb}
use Rattle.plan_num.proofs.Common.{map-append, All-head, All-tail}
use Rattle.std.specs.List.Sorted.{IsStrictlySortedBy}
use Rattle.std.specs.declared.cmp.Ordering.TheVariants.{Less}
use Rattle.tables.proofs.Common.{pool_columns, ReadsBack}
use Rattle.walks.specs.declared.edge.Edge.{Edge}
use Rattle.walks.proofs.Common.{NetworkParts, edges_at, IsWalk, ends_are, begins}
use Rattle.line_walks.specs.Pools.{lines_over, or_walk, pool_faults, pool_of, walk_from}
use Rattle.line_walks.specs.Pools.{walk_of}
use Rattle.line_walks.proofs.LinesBack.{HasEdge, edges_back, ids_back, pool_back}
use Rattle.line_walks.proofs.WalkLines.{IsWalked, RowsLine, ids_for, pool_accepted, rows_at}
use Rattle.line_walks.proofs.WalkLines.{rows_for, told_row}
use Rattle.line_walks.proofs.WalkRows.{row_to, rows_from}
use Rattle.pool_maker.specs.PoolTexts.{line_rows, pool_rows, row_at}
use Rattle.terminal_lines.proofs.TerminalWays.{IsTerminalPath}

-- ---- a walk of edges has stops

walk_there : (edges : List Edge) (from to : ℕ) (walk : List Edge) → IsWalk edges from to walk
    → is_some (walk_from from walk) ≡ true
unfolding walk_from
walk_there edges from to [] is = refl
walk_there edges from to (edge ∷ walk) is =
    let start = begins edges from to edge walk is in
    ap (λ over. is_some (option_and_then (λ next. option_map (λ stops. from ∷ stops)
    (walk_from next walk)) over)) start.over
    ∙ mapped (walk_from start.next walk) ∙ walk_there edges start.next to walk start.on
  where
    mapped : (stops : Option (List ℕ)) → is_some (option_map (λ more. from ∷ more) stops)
        ≡ is_some stops
    mapped None = refl
    mapped (Some stops) = refl

second_walk : (first second : Option (List ℕ)) → is_some second ≡ true
    → is_some (or_walk first second) ≡ true
second_walk None second is = is
second_walk (Some stops) second is = refl

first_walk : (first second : Option (List ℕ)) → is_some first ≡ true
    → is_some (or_walk first second) ≡ true
first_walk None second is = cc
first_walk (Some stops) second is = refl

pub walk_has_stops : (edges : List Edge) (from to : ℕ) (walk : List Edge)
    → IsWalk edges from to walk
    → is_some (walk_of walk) ≡ true
walk_has_stops edges from to [] is = refl
walk_has_stops edges from to (edge ∷ walk) is =
    let start = begins edges from to edge walk is in
    let there = walk_there edges from to (edge ∷ walk) is in
    elim (ends_are edge from start.next start.over) [
      | inl left ↦ first_walk _ _
          (ap (λ stop. is_some (walk_from stop (edge ∷ walk))) left.0 ∙ there)
      | inr right ↦ second_walk (walk_from edge.left (edge ∷ walk)) _
          (ap (λ stop. is_some (walk_from stop (edge ∷ walk))) right.0 ∙ there)
    ]

-- ---- the lines of a pool by their numbers

abbrev numbered_line : ℕ × List ℕ → RowsLine
numbered_line at = record { id = pos at.0; frequency = 0; edges = at.1 }

abbrev pub numbered_lines : ℕ → List (List ℕ) → List RowsLine
numbered_lines n lines = map numbered_line (enumerate_from n lines)

read_line : (network : NetworkParts) (number n : ℕ) (edges : List ℕ)
    → map told_row (map (row_at network number) (enumerate_from n edges))
    ≡ rows_from network.edges (pos number) 0 n edges
read_line network number n [] = refl
read_line network number n (edge ∷ edges) =
    grind (arith, row_to, read_line network number (n + 1) edges)

rows_told : (network : NetworkParts) (n : ℕ) (lines : List (List ℕ))
    → map told_row (flat_map (line_rows network) (enumerate_from n lines))
    ≡ rows_for network.edges (numbered_lines n lines)
rows_told network n [] = refl
rows_told network n (line ∷ lines) =
    grind (arith, map-append, told_row, read_line, rows_at, rows_told network (n + 1) lines)

above_number : (n m : ℕ) (lines : List (List ℕ)) → n < m
    → AllByRecursion (λ other. int_cmp (pos n) other ≡ Less) (ids_for (numbered_lines m lines))
above_number n m [] below = tt
above_number n m (line ∷ lines) below =
    grind (arith, nat_lt, lt-ltb, above_number n (m + 1) lines (omega (arith, below)))

numbers_rise : (n : ℕ) (lines : List (List ℕ))
    → IsStrictlySortedBy int_cmp (ids_for (numbered_lines n lines))
unfolding IsStrictlySortedBy
numbers_rise n [] = tt
numbers_rise n (line ∷ lines) =
    (above_number n (n + 1) lines (omega arith), numbers_rise (n + 1) lines)

numbers_are : (n : ℕ) (lines : List (List ℕ))
    → ids_for (numbered_lines n lines) ≡ map pos (range_with_len n (length lines))
numbers_are n [] = refl
numbers_are n (line ∷ lines) = ap (λ ids. pos n ∷ ids) (numbers_are (n + 1) lines)

edges_are : (n : ℕ) (lines : List (List ℕ)) → map (λ line. line.edges) (numbered_lines n lines)
    ≡ lines
edges_are n [] = refl
edges_are n (line ∷ lines) = ap (λ rest. line ∷ rest) (edges_are (n + 1) lines)

count_is : (n : ℕ) (lines : List (List ℕ)) → length (numbered_lines n lines) ≡ length lines
count_is n [] = refl
count_is n (line ∷ lines) = ap suc (count_is (n + 1) lines)

-- ---- lines between terminals are walks

module _ (network : NetworkParts) (terminals : List ℤ) where
  all_walked : (n : ℕ) (lines : List (List ℕ)) → All (IsTerminalPath network terminals) lines
      → AllByRecursion (IsWalked network.edges) (numbered_lines n lines)
  all_walked n [] all = tt
  all_walked n (line ∷ lines) all =
      let own = All-head (IsTerminalPath network terminals) line lines all in (
        record {
          there = own.simple.there;
          apart = own.simple.apart;
          walk = walk_has_stops network.edges _ _ (edges_at network.edges line)
              own.line.shortest.joins;
        },
        all_walked (n + 1) lines (All-tail (IsTerminalPath network terminals) line lines all),
      )

  all_have_edges : (n : ℕ) (lines : List (List ℕ)) → All (IsTerminalPath network terminals) lines
      → AllByRecursion HasEdge (numbered_lines n lines)
  all_have_edges n [] all = tt
  all_have_edges n (line ∷ lines) all =
      grind (
        arith,
        All-head,
        IsTerminalPath,
        All-tail,
        all_have_edges (n + 1) lines (All-tail (IsTerminalPath network terminals) line lines all),
      )

  module _ (lines : List (List ℕ)) (right : All (IsTerminalPath network terminals) lines)
      (few : length lines ≤ 190)
      (rise : IsStrictlySortedBy int_cmp (map (λ edge. edge.id) network.edges)) (text : List ℕ)
      (back : ReadsBack pool_columns (pool_rows network lines) text) where
    -- read as a pool it has no fault
    pub no_pool_faults : pool_faults network text ≡ []
    no_pool_faults =
        pool_accepted network (numbered_lines 1 lines) (pool_rows network lines) text rise
        (numbers_rise 1 lines) (all_walked 1 lines right) (omega (arith, few, count_is 1 lines))
        (rows_told network 1 lines) back

    pool_is : pool_of network text
        ≡ lines_over network.edges (rows_for network.edges (numbered_lines 1 lines))
    pool_is = pool_back network (numbered_lines 1 lines) (pool_rows network lines) text
        (rows_told network 1 lines) back

    -- its lines are the lines
    pub lines_are : map (λ line. line.edges) (pool_of network text) ≡ lines
    lines_are =
        grind (arith, pool_is, edges_back, numbers_rise, all_have_edges, all_walked, edges_are)

    -- numbered from 1
    pub numbers_back : map (λ line. line.id) (pool_of network text)
        ≡ map pos (range_with_len 1 (length lines))
    numbers_back = grind (arith, pool_is, ids_back, numbers_rise, all_have_edges, numbers_are)
