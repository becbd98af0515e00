-- The rows of a pool are within their columns.
use Rattle.plan_num.proofs.Common.{ℕ, pos, suc, ◌+◌, ◌<◌, ◌≤◌, List, [], ◌∷◌, length, map, All}
use Rattle.plan_num.proofs.Common.{Option, option_map, unwrap_or, refl, subst, sym, arith}
use Rattle.plan_num.proofs.Common.{enumerate_from, flat_map, ints, All-append, All-cons, All-get_or}
use Rattle.plan_num.proofs.Common.{All-nil, slice_get-get_or}
use Rattle.tables.proofs.Common.{pool_columns, TableRow, InColumns, IsHeader, plain_header}
use Rattle.walks.specs.declared.edge.Edge.{Edge}
use Rattle.walks.proofs.Common.{NetworkParts, no_edge}
use Rattle.pool_maker.specs.PoolTexts.{edge_id, line_rows, pool_header, pool_rows, row_at}
use Rattle.pool_maker.specs.Tellable.{AreTellable, IsRowId}
use Rattle.terminal_lines.specs.TerminalPaths.{IsShort}

abbrev InPool : TableRow → Type 0
InPool row = InColumns pool_columns row.cells

pub header_plain : IsHeader pool_header
header_plain = (refl, plain_header pool_header refl)

module _ (network : NetworkParts) (ids : All (λ edge. IsRowId edge.id) network.edges) where
  pub own_id : (edge : ℕ) → edge < length network.edges → IsRowId (edge_id network edge)
  own_id edge there =
      subst (λ (found : Option Edge). IsRowId (unwrap_or (option_map (λ at. at.id) found) (pos 0)))
      (sym (slice_get-get_or network.edges edge no_edge there))
      (All-get_or (λ edge. IsRowId edge.id) network.edges edge no_edge there ids)

  row_inside : (number place edge : ℕ) → 1 ≤ number → number ≤ 190 → 1 ≤ place → place ≤ 1000
      → edge < length network.edges → InPool (row_at network number (place, edge))
  row_inside number place edge some few low high there =
      let own = own_id edge there in grind (arith, ints)

  line_inside : (number n : ℕ) (edges : List ℕ) → 1 ≤ number → number ≤ 190 → 1 ≤ n
      → n + length edges ≤ 1001 → All (λ edge. edge < length network.edges) edges
      → All InPool (map (row_at network number) (enumerate_from n edges))
  line_inside number n [] some few low high there = All-nil InPool
  line_inside number n (edge ∷ edges) some few low high there =
      All-cons InPool _ _
      (row_inside number n edge some few low (omega (arith, high)) (there 0 edge (omega arith)))
      (line_inside number (n + 1) edges some few (omega (arith, low)) (omega (arith, high))
      (λ k d h. there (suc k) d (omega (arith, h))))

  lines_inside : (n : ℕ) (lines : List (List ℕ)) → 1 ≤ n → n + length lines ≤ 191
      → All (IsShort network) lines
      → All InPool (flat_map (line_rows network) (enumerate_from n lines))
  lines_inside n [] some few short = All-nil InPool
  lines_inside n (line ∷ lines) some few short =
      let own = short 0 line (omega arith) in
      All-append InPool (line_rows network (n, line)) _
      (line_inside n 1 line some (omega (arith, few)) (omega arith) (omega (arith, own.few))
      own.there)
      (lines_inside (n + 1) lines (omega (arith, some)) (omega (arith, few))
      (λ k d h. short (suc k) d (omega (arith, h))))

pub rows_inside : (network : NetworkParts) (lines : List (List ℕ)) → AreTellable network lines
    → All (λ row. InColumns pool_columns row.cells) (pool_rows network lines)
rows_inside network lines tellable = grind (arith, lines_inside)
