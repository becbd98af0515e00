-- The rows of a tree that is written are in the ranges of their columns.
use Rattle.plan_num.proofs.Common.{◌≡◌, ◌≤◌, ◌<◌, ℕ, ℤ, pos, zero, suc, ◌≤ℤ◌, arith, List, [], ◌∷◌}
use Rattle.plan_num.proofs.Common.{length, map, slice_get, subst, option_map, unwrap_or, All, Some}
use Rattle.plan_num.proofs.Common.{flat_map, ints, All-nil, All-cons, All-head, All-tail}
use Rattle.plan_num.proofs.Common.{All-append}
use Rattle.tables.proofs.Common.{tree_columns, TableRow, InColumns}
use Rattle.line_cost_model.specs.declared.edge.BoundedEdge.{BoundedEdge}
use Rattle.line_cost_model.specs.declared.multipliers.Multiplier.{Multiplier}
use Rattle.line_cost_model.specs.declared.side.Side.{Side}
use Rattle.line_cost_model.proofs.Common.{IsAmount, CostedLine, IsId, IsProblem, ProblemParts}
use Rattle.line_cost_model.specs.declared.side.Side.TheVariants as side
use Rattle.line_concepts.specs.declared.node.Node.{Node}
use Rattle.line_concepts.specs.declared.node.Node.TheVariants as node
use Rattle.branch_certificate.specs.TreeTexts.{CanBeWritten, edge_id, line_id, node_rows}
use Rattle.branch_certificate.specs.TreeTexts.{side_place, cells_row}
use Rattle.line_concepts.specs.Nodes.{NamesWhatIs}
use Rattle.line_concepts.proofs.FewMultipliers.{few_multipliers}

-- the id at a place is one that may be
id_there : {X : Type 0} (id : X → ℤ) (xs : List X) (i : ℕ) → All (λ x. IsId (id x)) xs
    → i < length xs → IsId (unwrap_or (option_map id (slice_get xs i)) (pos 0))
id_there id [] i all h = absurd (omega arith)
id_there id (x ∷ xs) zero all h = all 0 x (omega arith)
id_there id (x ∷ xs) (suc i) all h = id_there id xs i (λ k d l. all (suc k) d (omega arith))
    (omega arith)

up_to : (n most : ℕ) → n ≤ most → pos n ≤ℤ pos most
up_to n most h = omega (arith, ints)

-- four cells in the ranges of their columns
pub inside : (kind value multiplier : ℕ) (id : ℤ) → kind < 5 → pos 0 ≤ℤ id → id ≤ℤ pos 1000000000
    → value ≤ 1000000000 → multiplier ≤ 1000000000000000000
    → InColumns tree_columns (cells_row (pos kind) id (pos value) (pos multiplier)).cells
inside kind value multiplier id known low high few amount = grind arith

-- the row of a bound is in the ranges of its columns
pub bound_inside : (count : ℕ) → count ≤ 1000000000
    → InColumns tree_columns (cells_row (pos 2) (pos count) (pos 0) (pos 0)).cells
bound_inside count few = grind arith

module _ (problem : ProblemParts) (sound : IsProblem problem) where
  pub line_there : (line : ℕ) → line < length problem.lines → IsId (line_id problem line)
  line_there line h = id_there (λ (line : CostedLine). line.id) problem.lines line
      (λ k d l. (sound.lines k d l).id) h

  pub edge_there : (edge : ℕ) → edge < length problem.edges → IsId (edge_id problem edge)
  edge_there edge h = id_there (λ (edge : BoundedEdge). edge.id) problem.edges edge
      (λ k d l. (sound.edges k d l).id) h

  pub of_id : (kind value multiplier : ℕ) (id : ℤ) → kind < 5 → IsId id → value ≤ 1000000000
      → multiplier ≤ 1000000000000000000
      → InColumns tree_columns (cells_row (pos kind) id (pos value) (pos multiplier)).cells
  of_id kind value multiplier id known is few amount =
      inside kind value multiplier id known (omega (arith, ints, is.low)) is.high few amount

  side_few : (one : Side) → side_place one ≤ 1000000000
  side_few side.Over = omega arith
  side_few side.Under = omega arith

  one_row : (row : TableRow) → InColumns tree_columns row.cells
      → All (λ row. InColumns tree_columns row.cells) (row ∷ [])
  one_row row h = All-cons (λ (row : TableRow). InColumns tree_columns row.cells) row [] h
      (All-nil (λ (row : TableRow). InColumns tree_columns row.cells))

  -- and so is the row of the multiplier at a place
  pub multiplier_inside : (multipliers : List Multiplier) (i : ℕ) (r : ℕ × ℤ)
      → All (λ one. one.edge < length problem.edges) multipliers
      → All (λ one. IsAmount one.amount) multipliers
      → option_map (λ at. (at.edge, pos at.amount)) (slice_get multipliers i) ≡ Some r
      → InColumns tree_columns (cells_row (pos 3) (edge_id problem r.0) (pos 0) r.1).cells
  multiplier_inside [] i r named amounts e = cc
  multiplier_inside (one ∷ rest) zero r named amounts e =
      let same : (one.edge, pos one.amount) ≡ r = cc in
      subst (λ (r : ℕ × ℤ). InColumns tree_columns
      (cells_row (pos 3) (edge_id problem r.0) (pos 0) r.1).cells) same
      (of_id 3 0 one.amount (edge_id problem one.edge) (omega arith)
      (edge_there one.edge (named 0 one (omega arith))) (omega arith)
      (amounts 0 one (omega arith)).few)
  multiplier_inside (one ∷ rest) (suc i) r named amounts e =
      multiplier_inside rest i r (λ k d h. named (suc k) d (omega arith))
      (λ k d h. amounts (suc k) d (omega arith)) e

  multipliers_inside : (multipliers : List Multiplier)
      → All (λ one. one.edge < length problem.edges) multipliers
      → All (λ one. IsAmount one.amount) multipliers
      → All (λ row. InColumns tree_columns row.cells)
      (map (λ one. cells_row (pos 3) (edge_id problem one.edge) (pos 0) (pos one.amount))
      multipliers)
  multipliers_inside [] named amounts = All-nil
      (λ (row : TableRow). InColumns tree_columns row.cells)
  multipliers_inside (one ∷ rest) named amounts =
      All-cons (λ (row : TableRow). InColumns tree_columns row.cells) _ _
      (of_id 3 0 one.amount (edge_id problem one.edge) (omega arith)
      (edge_there one.edge (named 0 one (omega arith))) (omega arith)
      (amounts 0 one (omega arith)).few)
      (multipliers_inside rest (λ k d h. named (suc k) d (omega arith))
      (λ k d h. amounts (suc k) d (omega arith)))

  pub node_inside : (one : Node) → NamesWhatIs problem one → CanBeWritten one
      → All (λ row. InColumns tree_columns row.cells) (node_rows problem one)
  node_inside (node.Split line at) named can =
      one_row _ (of_id 0 at 0 (line_id problem line) (omega arith) (line_there line named) can
      (omega arith))
  node_inside (node.Empty edge one) named can =
      one_row _ (of_id 1 (side_place one) 0 (edge_id problem edge) (omega arith)
      (edge_there edge named)
      (side_few one) (omega arith))
  node_inside (node.Bound multipliers) named can =
      All-cons (λ (row : TableRow). InColumns tree_columns row.cells) _ _
      (bound_inside (length multipliers) (few_multipliers problem multipliers sound can named))
      (multipliers_inside multipliers named can.amounts)
  node_inside node.Point named can = grind arith

  pub rows_inside : (nodes : List Node) → All (NamesWhatIs problem) nodes → All CanBeWritten nodes
      → All (λ row. InColumns tree_columns row.cells) (flat_map (node_rows problem) nodes)
  rows_inside [] named can = All-nil (λ (row : TableRow). InColumns tree_columns row.cells)
  rows_inside (one ∷ nodes) named can =
      All-append (λ (row : TableRow). InColumns tree_columns row.cells) (node_rows problem one) _
      (node_inside one (All-head (NamesWhatIs problem) one nodes named)
      (All-head CanBeWritten one nodes can))
      (rows_inside nodes (All-tail (NamesWhatIs problem) one nodes named)
      (All-tail CanBeWritten one nodes can))
