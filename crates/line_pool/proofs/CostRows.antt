-- The rows of costs, and that their cells are in their columns.
use Rattle.plan_num.proofs.Common.{◌≡◌, ℕ, ℤ, pos, ◌+◌, ◌*◌, ◌/◌, ◌≤◌, ◌<◌, ◌≤ℤ◌, List, [], ◌∷◌}
use Rattle.plan_num.proofs.Common.{◌++◌, length, map, take, get_or, slice_get, ap, sym, ◌∙◌, arith}
use Rattle.plan_num.proofs.Common.{All, Some, option_map, sum, w64, to_z, ints, to_z_pos}
use Rattle.plan_num.proofs.Common.{slice_get-get_or, same_Some, map_more, All-map, All-weaker}
use Rattle.plan_num.proofs.Common.{All-get_or}
use Rattle.giv_files.specs.declared.key.Key.TheVariants as key
use Rattle.giv_files.specs.declared.setting.Setting.{Setting}
use Rattle.giv_files.proofs.Common.{amount}
use Rattle.tables.proofs.Common.{pool_cost_columns, TableRow, InColumns}
use Rattle.walks.specs.declared.edge.Edge.{Edge}
use Rattle.line_walks.specs.Pools.{LineParts}
use Rattle.line_pool.specs.CostStage.{line_cost, cost_row}
use Rattle.line_walks.specs.LineLengths.{line_length, IsModest}
use Rattle.line_walks.specs.LineLengths.{length_at}
use Rattle.line_pool.specs.LineCosts.{AreModest}

within : (n : ℕ) → n ≤ 1000000000000000000 → (pos 0 ≤ℤ pos n) × (pos n ≤ℤ pos 1000000000000000000)
within n h = (omega (arith, ints), omega (arith, ints))

-- the parts of a cost, which is not too great
cost_small : (fixed by_length by_edge units edges : ℕ) → fixed ≤ 1000000000000
    → by_length ≤ 10000000000 → by_edge ≤ 1000000000000 → units ≤ 10000000000000 → edges ≤ 1000
    → fixed + by_length * units / 1000000 + by_edge * edges ≤ 1000000000000000000
cost_small fixed by_length by_edge units edges a b c d e = grind arith

module _ (settings : List Setting) (edges : List Edge) (costs : AreModest settings) where
  -- the cells of a line are in their columns
  pub row_in_columns : (line : LineParts) → IsModest edges line
      → InColumns pool_cost_columns (cost_row settings edges line).cells
  row_in_columns line h = (
    (h.id_least, h.id_greatest),
    (
      within (line_length edges line) (omega (arith, h.short)),
      (
        within (line_cost settings edges line)
            (cost_small _ _ _ _ _ costs.fixed costs.by_length costs.by_edge h.short h.few),
        tt,
      ),
    ),
  )

  -- and so those of all lines
  pub rows_in_columns : (lines : List LineParts) → All (IsModest edges) lines
      → All (λ row. InColumns pool_cost_columns row.cells) (map (cost_row settings edges) lines)
  rows_in_columns lines h = All-map (λ (row : TableRow). InColumns pool_cost_columns row.cells)
      (cost_row settings edges) lines
      (All-weaker (IsModest edges) (λ line. InColumns pool_cost_columns
      (cost_row settings edges line).cells) row_in_columns lines h)

  no_parts : LineParts
  no_parts = record { id = pos 0; edges = []; stops = []; frequency = 0 }

  module _ (lines : List LineParts) (i : ℕ) (id : ℤ) (some : List ℕ) (units cost : ℕ)
      (h : i < length lines) (has_id : option_map (λ line. line.id) (slice_get lines i) ≡ Some id)
      (has_edges : option_map (λ line. line.edges) (slice_get lines i) ≡ Some some)
      (sums : units ≡ sum (map (length_at edges) some)) where
    line_is : (id ≡ (get_or lines i no_parts).id) × (some ≡ (get_or lines i no_parts).edges)
    line_is = grind (arith, slice_get-get_or, no_parts, option_map, same_Some)

    units_are : units ≡ line_length edges (get_or lines i no_parts)
    units_are = sums ∙ ap (λ indexes. sum (map (length_at edges) indexes)) line_is.1

    -- the edges of the line are there, and it is not too long
    pub line_modest : All (IsModest edges) lines → All (λ index. index < length edges) some
        × (units ≤ 10000000000000) × (length some ≤ 1000)
    line_modest modest = grind (arith, All-get_or, no_parts, line_is, units_are)

    -- the table with the row of one line more
    pub row_more : (table after : List TableRow) (units_cell cost_cell : ℤ)
        → All (IsModest edges) lines → (cost
        ≡ amount settings key.LpoolCostsFixed + amount settings key.LpoolCostsLength * units /
        1000000 + amount settings key.LpoolCostsEdges * length some) → units_cell ≡ to_z w64 units
        → cost_cell ≡ to_z w64 cost → table ≡ map (cost_row settings edges) (take i lines) → after
        ≡ table ++ record { number = 0; cells = id ∷ units_cell ∷ cost_cell ∷ [] } ∷ [] → after
        ≡ map (cost_row settings edges) (take (i + 1) lines)
    row_more table after units_cell cost_cell modest is units_read cost_read told put =
        let line = get_or lines i no_parts in
        let small = line_modest modest in
        let made : ℤ → ℤ → ℤ → TableRow = λ id units cost. record { number = 0; cells = id ∷ units ∷ cost ∷ [] } in
        let low : cost ≤ 1000000000000000000 = omega (
          arith,
          is,
          cost_small _ _ _ _ _ costs.fixed costs.by_length costs.by_edge small.1
              small.2,
        ) in
        let first : units_cell ≡ pos (line_length edges line) = units_read
        ∙ to_z_pos w64 units (omega (arith, small.1)) ∙ ap pos units_are in
        let total : cost ≡ line_cost settings edges line = is
        ∙ ap (λ n. amount settings key.LpoolCostsFixed + amount settings key.LpoolCostsLength *
        n / 1000000 + amount settings key.LpoolCostsEdges * length some) units_are
        ∙ ap (λ (indexes : List ℕ). amount settings key.LpoolCostsFixed + amount settings
        key.LpoolCostsLength * line_length edges line / 1000000 + amount settings
        key.LpoolCostsEdges * length indexes) line_is.1 in
        let second : cost_cell ≡ pos (line_cost settings edges line) = cost_read
        ∙ to_z_pos w64 cost (omega arith) ∙ ap pos total in
        put ∙ ap (λ rows. rows ++ made id units_cell cost_cell ∷ []) told
        ∙ ap (λ q. map (cost_row settings edges) (take i lines) ++ made q units_cell cost_cell ∷ []) line_is.0
        ∙ ap (λ q. map (cost_row settings edges) (take i lines) ++ made line.id q cost_cell ∷ []) first
        ∙ ap (λ q. map (cost_row settings edges) (take i lines)
        ++ made line.id (pos (line_length edges line)) q ∷ []) second
        ∙ sym (map_more (cost_row settings edges) lines i no_parts h)

-- ---- the columns and the header
