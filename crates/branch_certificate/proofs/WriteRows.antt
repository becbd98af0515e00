-- The rows of nodes and of multipliers, one after the other.
use Rattle.plan_num.proofs.Common.{◌≡◌, ℕ, ℤ, pos, zero, suc, ◌+◌, ◌<◌, arith, List, [], ◌∷◌, ◌++◌}
use Rattle.plan_num.proofs.Common.{take, slice_get, ap, sym, ◌∙◌, append_assoc, append-nil, Some}
use Rattle.plan_num.proofs.Common.{option_map, All, flat_map, flat_map-append}
use Rattle.tables.proofs.Common.{tree_columns, TableRow, line_text}
use Rattle.line_cost_model.specs.declared.multipliers.Multiplier.{Multiplier}
use Rattle.branch_certificate.specs.TreeTexts.{cells_row}

-- the line of a row behind others
pub lone_line : (bytes new : List ℕ) (made row : TableRow) → made ≡ row
    → new ≡ bytes ++ line_text tree_columns made
    → new ≡ bytes ++ flat_map (line_text tree_columns) (row ∷ [])
lone_line bytes new made row same pushed = grind (arith, append-nil)

-- and behind those of other rows
pub line_behind : (bytes old new : List ℕ) (rows : List TableRow) (made row : TableRow) → made ≡ row
    → old ≡ bytes ++ flat_map (line_text tree_columns) rows
    → new ≡ old ++ line_text tree_columns made
    → new ≡ bytes ++ flat_map (line_text tree_columns) (rows ++ row ∷ [])
line_behind bytes old new rows made row same are pushed =
    grind (arith, lone_line, append_assoc, flat_map-append)

-- rows with equal cells
pub same_row : (kind a id b value c multiplier : ℤ) → a ≡ id → b ≡ value → c ≡ multiplier
    → cells_row kind a b c ≡ cells_row kind id value multiplier
same_row kind a id b value c multiplier first second third = grind arith

-- the rows of the first items, with those of one more
pub rows_more : {X Y : Type 0} (rows : X → List Y) (xs : List X) (i : ℕ) (x : X) (old new : List Y)
    → new ≡ old ++ rows x → old ≡ flat_map rows (take i xs) → slice_get xs i ≡ Some x
    → new ≡ flat_map rows (take (i + 1) xs)
rows_more rows xs i x old new pushed are there =
    pushed ∙ ap (λ some. some ++ rows x) are ∙ sym (more xs i there)
  where
    more : (xs : List _) (i : ℕ) → slice_get xs i ≡ Some x
        → flat_map rows (take (i + 1) xs) ≡ flat_map rows (take i xs) ++ rows x
    more [] i e = cc
    more (y ∷ xs) zero e = grind (arith, append-nil)
    more (y ∷ xs) (suc i) e = grind (arith, append_assoc, more xs i e)

-- the edge at a place is one of those that are there
pub edge_there : (edges : ℕ) (multipliers : List Multiplier) (i : ℕ) (r : ℕ × ℤ)
    → All (λ one. one.edge < edges) multipliers
    → option_map (λ at. (at.edge, pos at.amount)) (slice_get multipliers i) ≡ Some r → r.0 < edges
edge_there edges [] i r all e = cc
edge_there edges (one ∷ rest) zero r all e =
    let same : (one.edge, pos one.amount) ≡ r = cc in
    let own : one.edge < edges = all 0 one (omega arith) in grind arith
edge_there edges (one ∷ rest) (suc i) r all e =
    edge_there edges rest i r (λ k d h. all (suc k) d (omega arith)) e
