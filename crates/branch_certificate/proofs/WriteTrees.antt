-- A tree that is written is read back.
use Rattle.plan_num.proofs.Common.{◌≡◌, ℕ, ℤ, pos, ◌<◌, ◌≤◌, ◌≤ℤ◌, ◌^◌, arith, true, not, nat_lt}
use Rattle.plan_num.proofs.Common.{int_eq, List, [], ◌∷◌, ◌++◌, length, get_or, map, refl, sym, ap}
use Rattle.plan_num.proofs.Common.{◌∙◌, append_assoc, append-nil, All, flat_map, Decides-int_eq}
use Rattle.plan_num.proofs.Common.{ints, length-map, map-append, All-head, All-tail, map-map}
use Rattle.tables.specs.declared.row_why.RowWhy.TheVariants as why
use Rattle.tables.specs.declared.file_id.FileId.TheVariants as file
use Rattle.tables.proofs.Common.{tree_columns, records, table_of, TableRow, ReadsBack, KeepRules}
use Rattle.tables.proofs.Common.{accepted, whole_accepted}
use Rattle.line_cost_model.specs.declared.edge.BoundedEdge.{BoundedEdge}
use Rattle.line_cost_model.specs.declared.multipliers.Multiplier.{Multiplier}
use Rattle.line_cost_model.specs.declared.side.Side.{Side}
use Rattle.line_cost_model.proofs.Common.{IsAmount, CostedLine, IsId, IsProblem, ProblemParts}
use Rattle.line_cost_model.specs.declared.side.Side.TheVariants as side
use Rattle.line_concepts.specs.declared.node.Node.{Node}
use Rattle.line_concepts.specs.declared.node.Node.TheVariants as node
use Rattle.branch_certificate.specs.declared.tree_row.TreeRow.{TreeRow}
use Rattle.branch_certificate.specs.ReadRows.{IsTreeRow, IsClosed, SaysNode, SaysBound}
use Rattle.branch_certificate.specs.ReadRows.{SaysMultiplier}
use Rattle.branch_certificate.specs.TreeFiles.{NamedIds, ids_of, is_due, nodes_of, tree_input}
use Rattle.branch_certificate.specs.TreeFiles.{tree_rules, tree_row, tree_of, read_faults}
use Rattle.branch_certificate.specs.TreeTexts.{CanBeWritten, edge_id, line_id, node_rows}
use Rattle.branch_certificate.specs.TreeTexts.{side_place, ReadsBackAs}
use Rattle.line_concepts.specs.Nodes.{NamesWhatIs}
use Rattle.branch_certificate.proofs.ReadRules.{split_says, empty_says, multiplier_says}
use Rattle.branch_certificate.proofs.ReadSteps.{node_more, bound_more, nodes_none}
use Rattle.line_concepts.proofs.FewMultipliers.{climb_of, few_edges}
use Rattle.branch_certificate.proofs.WriteInside.{line_there, edge_there}
use Rattle.branch_certificate.proofs.WriteMultipliers.{own_index, keep_both, kept_here}
use Rattle.branch_certificate.proofs.WriteMultipliers.{multipliers_kept}

-- ---- the rows of nodes

module _ (problem : ProblemParts) (sound : IsProblem problem) where
  abbrev ids : NamedIds
  ids = ids_of problem

  abbrev row : ℕ → ℤ → ℕ → ℕ → TreeRow
  row kind id value multiplier =
      record { kind = pos kind; id = id; value = pos value; multiplier = pos multiplier }

  number : (n most : ℕ) → n ≤ most → (pos 0 ≤ℤ pos n) × (pos n ≤ℤ pos most)
  number n most h = (omega (arith, ints), omega (arith, ints))

  fits : (kind value multiplier : ℕ) (id : ℤ) → kind ≤ 4 → IsId id → value ≤ 1000000000
      → multiplier ≤ 1000000000000000000 → IsTreeRow (row kind id value multiplier)
  fits kind value multiplier id known is few amount = grind arith

  split_row : (line at : ℕ) → line < length problem.lines → at ≤ 1000000000
      → SaysNode ids (row 0 (line_id problem line) at 0) (node.Split line at)
  split_row line at h few =
      split_says ids (row 0 (line_id problem line) at 0) refl line at
      (own_index (λ (line : CostedLine). line.id) problem.lines line sound.lines_rise h) refl
      (fits 0 at 0 (line_id problem line) (omega arith) (line_there problem sound line h) few
      (omega arith))
      refl

  empty_row : (edge : ℕ) (side : Side) → edge < length problem.edges
      → SaysNode ids (row 1 (edge_id problem edge) (side_place side) 0) (node.Empty edge side)
  empty_row edge side.Over h =
      empty_says ids (row 1 (edge_id problem edge) 0 0) refl edge side.Over
      (own_index (λ (edge : BoundedEdge). edge.id) problem.edges edge sound.edges_rise h) refl refl
  empty_row edge side.Under h =
      empty_says ids (row 1 (edge_id problem edge) 1 0) refl edge side.Under
      (own_index (λ (edge : BoundedEdge). edge.id) problem.edges edge sound.edges_rise h) refl refl

  bound_row : (count : ℕ) → SaysBound ids (row 2 (pos count) 0 0) count
  bound_row count = grind arith

  point_row : SaysNode ids (row 4 (pos 0) 0 0) node.Point
  point_row = grind arith

  abbrev multiplier_row : Multiplier → TreeRow
  multiplier_row one = row 3 (edge_id problem one.edge) 0 one.amount

  some_amount : (n : ℕ) → 1 ≤ n → not (int_eq (pos n) (pos 0)) ≡ true
  some_amount n h = grind (arith, int_eq, Decides-int_eq, ints)

  few_edges_small : (edge : ℕ) → edge < length problem.edges → edge < 2 ^ 63
  few_edges_small edge h = omega (arith, few_edges problem sound)

  multiplier_says_row : (one : Multiplier) → IsAmount one.amount → one.edge < length ids.edges
      → SaysMultiplier ids (multiplier_row one) one.edge (pos one.amount)
  multiplier_says_row one amount h =
      let here : one.edge < length problem.edges =
      omega (arith, length-map problem.edges (λ (edge : BoundedEdge). edge.id)) in
      multiplier_says ids (multiplier_row one) refl one.edge (pos one.amount)
      (own_index (λ (edge : BoundedEdge). edge.id) problem.edges one.edge sound.edges_rise here)
      (few_edges_small one.edge here) refl (some_amount one.amount amount.some)
      (fits 3 0 one.amount (edge_id problem one.edge) (omega arith)
      (edge_there problem sound one.edge here)
      (omega arith) amount.few) refl

  named_there : (multipliers : List Multiplier)
      → All (λ one. one.edge < length problem.edges) multipliers
      → All (λ one. one.edge < length ids.edges) multipliers
  named_there multipliers named k d h = grind (arith, get_or, length-map)

  -- what the rows of a node stand for
  abbrev written : Node → List TreeRow
  written one = map (λ row. tree_row row.cells) (node_rows problem one)

  abbrev Kept : List TreeRow → List Node → List TreeRow → List Node → Type 0
  Kept before nodes rows more =
      KeepRules (tree_rules ids) before rows × IsClosed ids (before ++ rows) (nodes ++ more)

  alone : (before : List TreeRow) (nodes : List Node) (one : TreeRow) (this : Node)
      → IsClosed ids before nodes → SaysNode ids one this → Kept before nodes (one ∷ []) (this ∷ [])
  alone before nodes one this h said = (
    (kept_here ids before one h.none_due (said.place before), tt),
    node_more ids before one nodes this h said,
  )

  node_kept : (this : Node) → NamesWhatIs problem this → CanBeWritten this → (before : List TreeRow)
      → (nodes : List Node) → IsClosed ids before nodes
      → Kept before nodes (written this) (this ∷ [])
  node_kept (node.Split line at) named can before nodes h =
      alone before nodes _ _ h (split_row line at named can)
  node_kept (node.Empty edge side) named can before nodes h =
      alone before nodes _ _ h (empty_row edge side named)
  node_kept (node.Bound multipliers) named can before nodes h =
      let first = row 2 (pos (length multipliers)) 0 0 in
      let said = bound_row (length multipliers) in
      let others = multipliers_kept ids nodes multiplier_row multiplier_says_row
      (sound.lines_rise, sound.edges_rise) multipliers (before ++ first ∷ [])
      (record { multipliers = []; next = 0; due = length multipliers })
      (bound_more ids before first nodes (length multipliers) h said) refl
      (climb_of multipliers can)
      can.amounts (named_there multipliers named) in grind (arith, map-map, kept_here, append_assoc)
  node_kept node.Point named can before nodes h = alone before nodes _ _ h point_row

  nodes_kept : (these : List Node) → All (NamesWhatIs problem) these → All CanBeWritten these
      → (before : List TreeRow) (nodes : List Node) → IsClosed ids before nodes
      → Kept before nodes (map (λ row. tree_row row.cells) (flat_map (node_rows problem) these))
      these
  nodes_kept [] named can before nodes h = grind (arith, append-nil)
  nodes_kept (this ∷ these) named can before nodes h =
      let first = node_kept this (All-head (NamesWhatIs problem) this these named)
      (All-head CanBeWritten this these can) before nodes h in grind (
        arith,
        All-tail,
        map-append,
        keep_both,
        append_assoc,
        nodes_kept these (All-tail (NamesWhatIs problem) this these
            named) (All-tail CanBeWritten this these can) (before ++ written this) (nodes ++ this ∷
            []) first.1,
      )

  -- a text that reads back as the rows of nodes is read back as the nodes
  pub nodes_back : (nodes : List Node) → All (NamesWhatIs problem) nodes → All CanBeWritten nodes
      → (text : List ℕ) → ReadsBack tree_columns (flat_map (node_rows problem) nodes) text
      → ReadsBackAs problem nodes text
  unfolding read_faults tree_of
  nodes_back nodes named can text back =
      let rows = flat_map (node_rows problem) nodes in
      let input = tree_input ids in
      let table = table_of tree_columns text in
      let none : IsClosed ids [] [] = record { whole = λ rest inside. refl; none_due = refl } in
      let all = nodes_kept nodes named can [] [] none in
      let same : records input table ≡ records input rows =
      sym (map-map tree_row (λ (row : TableRow). row.cells) table) ∙ ap (map tree_row) back.1
      ∙ map-map tree_row (λ (row : TableRow). row.cells) rows in
      record {
        fine = accepted input rows text back refl all.0
            (whole_accepted file.Tree is_due why.OrderGap (records input rows)
            (ap (nat_lt 0) all.1.none_due));
        same = ap (nodes_of ids) (same ∙ sym (append-nil (records input rows)))
            ∙ all.1.whole [] refl
            ∙ ap (λ some. nodes ++ some) (nodes_none ids) ∙ append-nil nodes;
      }
