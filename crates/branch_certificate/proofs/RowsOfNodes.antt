-- A row of a tree that keeps the rules is the row of its node.
use Rattle.plan_num.proofs.Common.{◌≡◌, ℕ, ℤ, zero, suc, pos, negsuc, ◌≤ℤ◌, arith, Bool, true}
use Rattle.plan_num.proofs.Common.{false, cond, not, ◌||◌, ◌&&◌, List, [], ◌∷◌, ◌++◌, length, map}
use Rattle.plan_num.proofs.Common.{slice_get, unsigned_abs, int_lt, int_eq, position, refl, ap, sym}
use Rattle.plan_num.proofs.Common.{◌∙◌, append-nil, option_map, unwrap_or, is_some, AllByRecursion}
use Rattle.plan_num.proofs.Common.{flat_map, list_any, ltb-false, not-false, Decides-int_eq, ints}
use Rattle.plan_num.proofs.Common.{length-map, position-Some}
use Rattle.tables.specs.declared.row_why.RowWhy.{RowWhy}
use Rattle.tables.proofs.Common.{RowRule, broken_whys, TableRow, KeepRules}
use Rattle.plan_num.proofs.Found.{any_is}
use Rattle.line_cost_model.specs.declared.edge.BoundedEdge.{BoundedEdge}
use Rattle.line_cost_model.specs.declared.multipliers.Multiplier.{Multiplier}
use Rattle.line_cost_model.proofs.Common.{CostedLine, ProblemParts}
use Rattle.line_concepts.specs.declared.node.Node.{Node}
use Rattle.line_concepts.specs.declared.node.Node.TheVariants as node
use Rattle.branch_certificate.specs.declared.tree_row.TreeRow.{TreeRow}
use Rattle.branch_certificate.specs.ReadRows.{IsTreeRow}
use Rattle.branch_certificate.specs.TreeFiles.{NamedIds, announced, edge_index, has_edge, has_line}
use Rattle.branch_certificate.specs.TreeFiles.{has_stray_cell, ids_of, is_empty, is_multiplier}
use Rattle.branch_certificate.specs.TreeFiles.{is_split, line_index, multiplier_in, multiplier_rows}
use Rattle.branch_certificate.specs.TreeFiles.{node_of, side_of, tree_rules}
use Rattle.branch_certificate.specs.TreeTexts.{cells_row, edge_id, node_rows, row_with, side_place}
use Rattle.branch_certificate.proofs.FaultlessTrees.{by_kind}
use Rattle.branch_certificate.proofs.ReadSteps.{inside_first, multiplier_first, no_multiplier}
use Rattle.branch_certificate.proofs.WriteMultipliers.{id_is}
use Rattle.plan_num.proofs.Tests.{number_back}

-- ---- the rules that a row keeps

-- a row breaks none of some rules
abbrev pub KeepsAll : List (RowRule TreeRow) → List TreeRow → TreeRow → Type 0
KeepsAll [] before row = Unit {0}
KeepsAll (rule ∷ rules) before row = (rule.is_broken before row ≡ false) × KeepsAll rules before row

pub none_broken : (rules : List (RowRule TreeRow)) (before : List TreeRow) (row : TreeRow)
    → broken_whys rules before row ≡ [] → KeepsAll rules before row
none_broken [] before row h = tt
none_broken (rule ∷ rules) before row h =
    by (rule.is_broken before row) refl (none_broken rules before row)
  where
    rest : Bool → List RowWhy
    rest b = cond b (rule.why ∷ []) [] ++ broken_whys rules before row

    by : (b : Bool) → rule.is_broken before row ≡ b
        → (broken_whys rules before row ≡ [] → KeepsAll rules before row)
        → (rule.is_broken before row ≡ false) × KeepsAll rules before row
    by true is others = let never : rest true ≡ [] = ap rest (sym is) ∙ h in cc
    by false is others = (is, others (ap rest (sym is) ∙ h))

-- ---- what a row is that keeps them

id_back : {X : Type 0} (id_of : X → ℤ) (xs : List X) (id : ℤ)
    → list_any (int_eq id) (map id_of xs) ≡ true
    → unwrap_or (option_map id_of (slice_get xs (unwrap_or (position (int_eq id) (map id_of xs)) 0)))
    (pos 0) ≡ id
id_back id_of xs id there = grind (
  arith,
  int_eq,
  unwrap_or,
  option_map,
  slice_get,
  any_is,
  is_some,
  position-Some,
  id_is,
  length-map,
  Decides-int_eq,
)

side_back : (value : ℤ) → pos 0 ≤ℤ value → int_lt (pos 1) value ≡ false
    → pos (side_place (side_of value)) ≡ value
side_back (pos zero) low h = refl
side_back (pos (suc zero)) low h = refl
side_back (pos (suc (suc n))) low h = absurd (omega (arith, ltb-false 1 (suc (suc n)) h))
side_back (negsuc n) low h = absurd (omega (arith, ints, low))

none_of : (a b c : Bool) → ((a || b) || c) ≡ false → (a ≡ false) × (b ≡ false) × (c ≡ false)
none_of true b c e = cc
none_of false true c e = cc
none_of false false true e = cc
none_of false false false e = (refl, refl, refl)

is_zero : (n : ℤ) → not (int_eq n (pos 0)) ≡ false → pos 0 ≡ n
is_zero n e = sym ((Decides-int_eq n (pos 0)).0 (not-false (int_eq n (pos 0)) e))

-- ---- rows, and the rows of their nodes

module _ (problem : ProblemParts) where
  abbrev pub ids : NamedIds
  ids = ids_of problem

  -- a row as it is written
  abbrev pub written : TreeRow → TableRow
  written row = cells_row row.kind row.id row.value row.multiplier

  abbrev pub of_multiplier : Multiplier → TableRow
  of_multiplier one = row_with 3 (edge_id problem one.edge) 0 one.amount

  -- a row keeps the rules that tell nothing of the rows before it
  pub record IsWhole (row : TreeRow) : Type 0 where
    pub cells : IsTreeRow row
    pub line : (is_split row && not (has_line ids row.id)) ≡ false
    pub edge : ((is_empty row || is_multiplier row) && not (has_edge ids row.id)) ≡ false
    pub side : (is_empty row && int_lt (pos 1) row.value) ≡ false
    pub stray : has_stray_cell row ≡ false

  pub whole_row : (row : TreeRow) → IsTreeRow row → (before : List TreeRow)
      → broken_whys (tree_rules ids) before row ≡ [] → IsWhole row
  whole_row row cells before keep =
      let kept = none_broken (tree_rules ids) before row keep in grind arith

  module _ (row : TreeRow) (whole : IsWhole row) where
    -- the row of a kind
    abbrev of_kind : ℕ → TreeRow
    of_kind kind = record row { kind = pos kind }

    as_written : (kind : ℕ) (id : ℤ) (value multiplier : ℕ) → row.kind ≡ pos kind → id ≡ row.id
        → pos value ≡ row.value → pos multiplier ≡ row.multiplier
        → row_with kind id value multiplier ≡ written row
    as_written kind id value multiplier is a b c = grind arith

    stray_of : (kind : ℕ) → row.kind ≡ pos kind → has_stray_cell (of_kind kind) ≡ false
    stray_of kind is = ap (λ kind. has_stray_cell (record row { kind = kind })) (sym is) ∙ whole.stray

    edge_back : has_edge ids row.id ≡ true → edge_id problem (edge_index ids row.id) ≡ row.id
    edge_back there = id_back (λ (edge : BoundedEdge). edge.id) problem.edges row.id there

    multiplier_written : is_multiplier row ≡ true
        → of_multiplier (multiplier_in ids row) ≡ written row
    multiplier_written is =
        let kind : row.kind ≡ pos 3 = (Decides-int_eq row.kind (pos 3)).0 is in grind (
          arith,
          none_of,
          int_eq,
          stray_of,
          not-false,
          as_written,
          edge_back,
          is_zero,
          number_back,
        )

    module _ (rest : List TreeRow) where
      -- the rows of the node of a row are that row and those of the multipliers right after it
      abbrev pub IsWritten : Type 0
      IsWritten = flat_map (node_rows problem) (node_of ids row rest)
          ≡ written row ∷ map written (multiplier_rows rest)

      alone : (one : Node) (kind : ℕ) → row.kind ≡ pos kind
          → node_of ids (of_kind kind) rest ≡ one ∷ [] → (first : TableRow)
          → node_rows problem one ≡ first ∷ [] → first ≡ written row → multiplier_rows rest ≡ []
          → IsWritten
      alone one kind is this first rows same none = grind arith

      pub node_written : is_multiplier row ≡ false
          → length (multiplier_rows rest) ≡ announced row
          → map of_multiplier (map (multiplier_in ids) (multiplier_rows rest))
          ≡ map written (multiplier_rows rest) → IsWritten
      node_written other due behind =
          by_kind row.kind whole.cells.kind.0 whole.cells.kind.1 IsWritten split empty bound never
          point
        where
          none : (kind : ℕ) → row.kind ≡ pos kind → announced (of_kind kind) ≡ 0
              → multiplier_rows rest ≡ []
          none kind is gone = nothing (multiplier_rows rest) (due
              ∙ ap (λ kind. announced (record row { kind = kind })) is ∙ gone)
            where
              nothing : (rows : List TreeRow) → length rows ≡ 0 → rows ≡ []
              nothing [] e = refl
              nothing (first ∷ rows) e = cc

          split : row.kind ≡ pos 0 → IsWritten
          split kind =
              let free = none_of (not (int_eq row.multiplier (pos 0))) false false (stray_of 0 kind) in
              let there = not-false (has_line ids row.id)
              (ap (λ kind. (int_eq kind (pos 0) && not (has_line ids row.id))) (sym kind) ∙ whole.line) in
              alone (node.Split (line_index ids row.id) (unsigned_abs row.value)) 0 kind refl _ refl
              (as_written 0 _ _ 0 kind
              (id_back (λ (line : CostedLine). line.id) problem.lines row.id there)
              (number_back row.value whole.cells.value.0) (is_zero row.multiplier free.0))
              (none 0 kind refl)

          empty : row.kind ≡ pos 1 → IsWritten
          empty kind =
              let free = none_of (not (int_eq row.multiplier (pos 0))) false false (stray_of 1 kind) in
              let there = not-false (has_edge ids row.id)
              (ap (λ kind. ((int_eq kind (pos 1) || int_eq kind (pos 3)) && not (has_edge ids row.id)))
              (sym kind) ∙ whole.edge) in
              let few = ap (λ kind. (int_eq kind (pos 1) && int_lt (pos 1) row.value)) (sym kind)
              ∙ whole.side in
              alone (node.Empty (edge_index ids row.id) (side_of row.value)) 1 kind refl _ refl
              (as_written 1 _ _ 0 kind (edge_back there)
              (side_back row.value whole.cells.value.0 few) (is_zero row.multiplier free.0))
              (none 1 kind refl)

          bound : row.kind ≡ pos 2 → IsWritten
          bound kind =
              grind (
                arith,
                none_of,
                int_eq,
                stray_of,
                unsigned_abs,
                length-map,
                append-nil,
                as_written,
                number_back,
                is_zero,
              )

          never : row.kind ≡ pos 3 → IsWritten
          never kind = grind (arith, int_eq)

          point : row.kind ≡ pos 4 → IsWritten
          point kind = grind arith

  -- the rows of multipliers are those that they stand for
  abbrev pub AreSame : List TreeRow → Type 0
  AreSame some = map of_multiplier (map (multiplier_in ids) some) ≡ map written some

  pub multipliers_written : (rows : List TreeRow) → AllByRecursion IsTreeRow rows
      → (before : List TreeRow) → KeepRules (tree_rules ids) before rows
      → AreSame (multiplier_rows rows)
  multipliers_written [] cells before keep = refl
  multipliers_written (row ∷ rows) cells before keep =
      by (is_multiplier row) refl (multipliers_written rows cells.1 (before ++ row ∷ []) keep.1)
    where
      by : (b : Bool) → is_multiplier row ≡ b → AreSame (multiplier_rows rows)
          → AreSame (multiplier_rows (row ∷ rows))
      by false other others = grind (arith, no_multiplier, inside_first)
      by true is others = grind (arith, multiplier_first, multiplier_written, whole_row)
