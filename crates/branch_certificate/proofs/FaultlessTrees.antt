-- A text without a fault as a tree is one.
use Rattle.plan_num.proofs.Common.{◌≡◌, ℕ, ℤ, zero, suc, pos, negsuc, ◌+◌, ◌^◌, ◌<◌, ◌≤◌, ◌≤ℤ◌}
use Rattle.plan_num.proofs.Common.{◌<ℤ◌, arith, Bool, true, false, cond, not, ◌||◌, nat_lt, List}
use Rattle.plan_num.proofs.Common.{[], ◌∷◌, length, take, get_or, slice_get, unsigned_abs, int_lt}
use Rattle.plan_num.proofs.Common.{position, refl, ap, sym, ◌∙◌, subst, Option, Some, None, All}
use Rattle.plan_num.proofs.Common.{IsStrictlySortedBy, int_cmp, int_eq, MatchOrdering, int_ranks}
use Rattle.plan_num.proofs.Common.{ltb-false, ltb-true, ints, none-some, All-map, All-nil}
use Rattle.plan_num.proofs.Common.{position-Some}
use Rattle.std.specs.declared.cmp.Ordering.TheVariants.{Less}
use Rattle.tables.specs.declared.file_id.FileId.TheVariants as file
use Rattle.tables.specs.declared.row_why.RowWhy.{RowWhy}
use Rattle.tables.proofs.Common.{tree_columns, Input, broken_whys, records, table_row_faults}
use Rattle.tables.proofs.Common.{table_of, TableRow, no_row, InColumns, none_breaks, parts_sound}
use Rattle.tables.proofs.Common.{records_all, table_sound, whole_rule_sound, SoundBefore}
use Rattle.tables.proofs.Common.{table_in_columns}
use Rattle.tables.specs.declared.row_why.RowWhy.TheVariants as why
use Rattle.line_cost_model.specs.declared.edge.BoundedEdge.{BoundedEdge}
use Rattle.line_cost_model.specs.declared.side.Side.{Side}
use Rattle.line_cost_model.proofs.Common.{IsId, IsProblem, ProblemParts}
use Rattle.line_concepts.specs.declared.node.Node.TheVariants as node
use Rattle.branch_certificate.specs.declared.read_so_far.ReadSoFar.{ReadSoFar}
use Rattle.branch_certificate.specs.declared.row_says.RowSays.{RowSays}
use Rattle.branch_certificate.specs.declared.row_says.RowSays.TheVariants as says
use Rattle.branch_certificate.specs.declared.tree_row.TreeRow.{TreeRow}
use Rattle.branch_certificate.specs.ReadRows.{AreRising, IsReadSoFar, IsRefused, IsSoundNode}
use Rattle.branch_certificate.specs.ReadRows.{IsTreeRow, Says, SaysBound, SaysNode, first_why}
use Rattle.branch_certificate.specs.ReadRows.{closed, takes_row, with_row}
use Rattle.branch_certificate.specs.TreeFiles.{NamedIds, ids_of, is_due, side_of, tree_input}
use Rattle.branch_certificate.specs.TreeFiles.{tree_of, tree_row, tree_rules, read_faults}
use Rattle.branch_certificate.specs.TreeTexts.{CanBeWritten}
use Rattle.line_concepts.specs.Nodes.{NamesWhatIs}
use Rattle.plan_num.proofs.SortedIds.{rises}
use Rattle.branch_certificate.proofs.ReadRules.{empty_aside, empty_says, empty_stray}
use Rattle.branch_certificate.proofs.ReadRules.{empty_unknown, multiplier_of_0, multiplier_says}
use Rattle.branch_certificate.proofs.ReadRules.{multiplier_stray, multiplier_unknown}
use Rattle.branch_certificate.proofs.ReadRules.{split_says, split_stray, split_unknown}
use Rattle.branch_certificate.proofs.ReadSteps.{due_told}
use Rattle.branch_certificate.proofs.ReadTaken.{taken}
use Rattle.branch_certificate.proofs.ReadTexts.{tree_read}
use Rattle.branch_certificate.proofs.ReadWhole.{next_row}
use Rattle.plan_num.proofs.Tests.{less_is, or_true}
use Rattle.plan_num.proofs.Lists.{unmapped}

-- ---- a bound, and a point

module _ (ids : NamedIds) (row : TreeRow) where
  bound_place : row.kind ≡ pos 2 → (a b c : Bool) → not (int_eq row.multiplier (pos 0)) ≡ a
      → not (int_eq row.value (pos 0)) ≡ b → ((a || b) || false) ≡ c
      → (before : List TreeRow) → first_why ids before row ≡ cond (is_due before || c) (Some why.OrderGap) None
  bound_place kind a b c some other e before = grind arith

  bound_says : row.kind ≡ pos 2 → not (int_eq row.multiplier (pos 0)) ≡ false
      → not (int_eq row.value (pos 0)) ≡ false → SaysBound ids row (unsigned_abs row.id)
  bound_says kind none other = grind arith

  point_place : row.kind ≡ pos 4 → (a b c d : Bool) → not (int_eq row.multiplier (pos 0)) ≡ a
      → not (int_eq row.value (pos 0)) ≡ b → not (int_eq row.id (pos 0)) ≡ c → ((a || b) || c) ≡ d
      → (before : List TreeRow) → first_why ids before row ≡ cond (is_due before || d) (Some why.OrderGap) None
  point_place kind a b c d some other id e before = grind arith

  point_says : row.kind ≡ pos 4 → not (int_eq row.multiplier (pos 0)) ≡ false
      → not (int_eq row.value (pos 0)) ≡ false → not (int_eq row.id (pos 0)) ≡ false → SaysNode ids row node.Point
  point_says kind none other id = grind arith

-- ---- what a row says that is not refused

pub by_kind : (kind : ℤ) → pos 0 ≤ℤ kind → kind ≤ℤ pos 4 → (Goal : Type 0) → (kind ≡ pos 0 → Goal)
    → (kind ≡ pos 1 → Goal)
    → (kind ≡ pos 2 → Goal) → (kind ≡ pos 3 → Goal) → (kind ≡ pos 4 → Goal) → Goal
by_kind (pos zero) low high Goal a b c d e = a refl
by_kind (pos (suc zero)) low high Goal a b c d e = b refl
by_kind (pos (suc (suc zero))) low high Goal a b c d e = c refl
by_kind (pos (suc (suc (suc zero)))) low high Goal a b c d e = d refl
by_kind (pos (suc (suc (suc (suc zero))))) low high Goal a b c d e = e refl
by_kind (pos (suc (suc (suc (suc (suc n)))))) low high Goal a b c d e = absurd (omega (arith, ints, high))
by_kind (negsuc n) low high Goal a b c d e = absurd (omega (arith, ints, low))

module _ (ids : NamedIds) (small : length ids.edges ≤ 2 ^ 63) (row : TreeRow)
    (cells : IsTreeRow row) (before : List TreeRow)
    (kept : first_why ids before row ≡ None) (Goal : Type 0) (go : (said : RowSays) → Says ids row said → Goal) where
  never : (why : RowWhy) → IsRefused ids row why → Goal
  never why refused = absurd (none-some why (sym kept ∙ refused before))

  out : (first_why ids before row ≡ cond (is_due before || true) (Some why.OrderGap) None) → Goal
  out is = absurd (none-some why.OrderGap
      (sym kept ∙ is ∙ ap (λ b. cond b (Some why.OrderGap) None) (or_true (is_due before))))

  as_split : row.kind ≡ pos 0 → Goal
  as_split kind = by (position (int_eq row.id) ids.lines) refl
    where
      by : (line : Option ℕ) → position (int_eq row.id) ids.lines ≡ line → Goal
      by None is = never why.UnknownLine (split_unknown ids row kind is)
      by (Some line) is = one (not (int_eq row.multiplier (pos 0))) refl
        where
          one : (stray : Bool) → not (int_eq row.multiplier (pos 0)) ≡ stray → Goal
          one true stray = never why.OrderGap (split_stray ids row kind line is stray)
          one false none = go (says.Whole (node.Split line (unsigned_abs row.value)))
              (split_says ids row kind line _ is none cells refl)

  as_empty : row.kind ≡ pos 1 → Goal
  as_empty kind = by (position (int_eq row.id) ids.edges) refl
    where
      by : (edge : Option ℕ) → position (int_eq row.id) ids.edges ≡ edge → Goal
      by None is = never why.UnknownEdge (empty_unknown ids row kind is)
      by (Some edge) is = side (cond (int_lt (pos 1) row.value) None (Some (side_of row.value))) refl
        where
          side : (named : Option Side) → cond (int_lt (pos 1) row.value) None (Some (side_of row.value)) ≡ named → Goal
          side None none = never why.OrderGap (empty_aside ids row kind edge is none)
          side (Some named) e = one (not (int_eq row.multiplier (pos 0))) refl
            where
              one : (stray : Bool) → not (int_eq row.multiplier (pos 0)) ≡ stray → Goal
              one true stray = never why.OrderGap (empty_stray ids row kind edge is stray)
              one false none = go (says.Whole (node.Empty edge named)) (empty_says ids row kind edge named is e none)

  as_bound : row.kind ≡ pos 2 → Goal
  as_bound kind = by (not (int_eq row.multiplier (pos 0))) (not (int_eq row.value (pos 0))) refl refl
    where
      by : (a b : Bool) → not (int_eq row.multiplier (pos 0)) ≡ a → not (int_eq row.value (pos 0)) ≡ b → Goal
      by true b some other = out (bound_place ids row kind true b true some other refl before)
      by false true some other = out (bound_place ids row kind false true true some other refl before)
      by false false some other = go (says.Bound (unsigned_abs row.id)) (bound_says ids row kind some other)

  as_multiplier : row.kind ≡ pos 3 → Goal
  as_multiplier kind = by (position (int_eq row.id) ids.edges) refl
    where
      by : (edge : Option ℕ) → position (int_eq row.id) ids.edges ≡ edge → Goal
      by None is = never why.UnknownEdge (multiplier_unknown ids row kind is)
      by (Some edge) is = one (not (int_eq row.value (pos 0))) (not (int_eq row.multiplier (pos 0))) refl refl
        where
          within : edge < length ids.edges
          within = (position-Some (int_eq row.id) ids.edges edge (pos 0) is).0

          one : (a b : Bool) → not (int_eq row.value (pos 0)) ≡ a → not (int_eq row.multiplier (pos 0)) ≡ b → Goal
          one true b stray some = never why.OrderGap (multiplier_stray ids row kind edge is stray)
          one false false none nothing = never why.OrderGap (multiplier_of_0 ids row kind edge is nothing)
          one false true none some = go (says.Multiplier edge row.multiplier)
              (multiplier_says ids row kind edge row.multiplier is (omega (arith, within, small)) none some cells refl)

  as_point : row.kind ≡ pos 4 → Goal
  as_point kind = by (not (int_eq row.multiplier (pos 0))) (not (int_eq row.value (pos 0)))
      (not (int_eq row.id (pos 0))) refl refl refl
    where
      by : (a b c : Bool) → not (int_eq row.multiplier (pos 0)) ≡ a
          → not (int_eq row.value (pos 0)) ≡ b → not (int_eq row.id (pos 0)) ≡ c → Goal
      by true b c some other id = out (point_place ids row kind true b c true some other id refl before)
      by false true c some other id = out (point_place ids row kind false true c true some other id refl before)
      by false false true some other id = out (point_place ids row kind false false true true some other id refl before)
      by false false false some other id = go (says.Whole node.Point) (point_says ids row kind some other id)

  what_it_says : Goal
  what_it_says = by_kind row.kind cells.kind.0 cells.kind.1 Goal as_split as_empty as_bound as_multiplier as_point

-- ---- all rows

pub row_cells : (cells : List ℤ) → InColumns tree_columns cells → IsTreeRow (tree_row cells)
row_cells (kind ∷ id ∷ value ∷ multiplier ∷ []) h = record {
  kind = of_word kind h.0;
  id = (h.1.0.0, h.1.0.1);
  value = (h.1.1.0.0, h.1.1.0.1);
  multiplier = (h.1.1.1.0.0, h.1.1.1.0.1);
}
  where
    of_word : (kind : ℤ) → ((place : ℕ) × (place < 5) × (kind ≡ pos place)) → (pos 0 ≤ℤ kind) × (kind ≤ℤ pos 4)
    of_word kind (place, few, is) = rw is (omega (arith, ints), omega (arith, ints, few))
row_cells [] h = elim h [ ]
row_cells (a ∷ []) h = elim h.1 [ ]
row_cells (a ∷ b ∷ []) h = elim h.1.1 [ ]
row_cells (a ∷ b ∷ c ∷ []) h = elim h.1.1.1 [ ]
row_cells (a ∷ b ∷ c ∷ d ∷ e ∷ rest) h = elim h.1.1.1.1 [ ]

module _ (ids : NamedIds) (up : AreRising ids) (small : length ids.edges ≤ 2 ^ 63) (table : List TableRow)
    (cells : All (λ row. InColumns tree_columns row.cells) table) (none : table_row_faults (tree_input ids) table ≡ [])
    (Goal : Type 0) (go : (so_far : ReadSoFar) → IsReadSoFar ids (records (tree_input ids) table) so_far → Goal) where
  abbrev input : Input TreeRow
  input = tree_input ids

  keeps : (i : ℕ) → i < length table
      → broken_whys (tree_rules ids) (records input (take i table))
      (tree_row (get_or table i no_row).cells) ≡ []
  keeps = none_breaks (λ row. row.number) (λ row. tree_row row.cells) file.Tree (tree_rules ids) [] table no_row none

  is_taken : (goes : Bool) → None ≡ cond goes None (Some why.OrderGap) → goes ≡ true
  is_taken true e = refl
  is_taken false e = absurd (none-some why.OrderGap e)

  rows_read : (left i : ℕ) (so_far : ReadSoFar) → SoundBefore input table i
      → IsReadSoFar ids (records input (take i table)) so_far → length table ≤ i + left → Goal
  rows_read zero i so_far sound known few =
      go so_far (subst (λ rows. IsReadSoFar ids rows so_far) (records_all input table i (omega (arith, few))) known)
  rows_read (suc left) i so_far sound known few =
      by (nat_lt i (length table)) refl
      (λ more sound known. rows_read left (i + 1) more sound known (omega (arith, few)))
    where
      by : (more : Bool) → nat_lt i (length table) ≡ more
          → ((more : ReadSoFar) → SoundBefore input table (i + 1)
          → IsReadSoFar ids (records input (take (i + 1) table)) more → Goal) → Goal
      by false past on = go so_far (subst (λ rows. IsReadSoFar ids rows so_far)
          (records_all input table i (ltb-false i (length table) past)) known)
      by true here on =
          let inside = ltb-true i (length table) here in
          let row = tree_row (get_or table i no_row).cells in
          let before = records input (take i table) in
          let free : first_why ids before row ≡ None = ap (λ whys. slice_get whys 0) (keeps i inside) in
          what_it_says ids small row (row_cells _ (cells i no_row inside)) before free Goal (λ said is.
          let step = taken ids before row so_far up known said is in
          let goes = is_taken (takes_row so_far said) (sym free ∙ step.0) in
          let next = next_row ids table i so_far row inside refl sound known up said is true
          (sym goes) refl (with_row so_far said) refl in
          on (with_row so_far said) next.sound next.known)

  all_rows : Goal
  all_rows = rows_read (length table) 0 (record { nodes = []; bound = None }) refl (record {
    sound = All-nil (IsSoundNode ids);
    behind = record { whole = λ rest inside. refl; none_due = refl };
  }) (omega arith)

-- ---- ids that rise in a range are few

at_least : (ids : List ℤ) → IsStrictlySortedBy int_cmp ids → All IsId ids → (k : ℕ) → k < length ids
    → pos (k + 1) ≤ℤ get_or ids k (pos 0)
at_least ids up each zero h = let low = (each 0 (pos 0) h).low in omega (arith, ints, low)
at_least ids up each (suc k) h =
    let before = at_least ids up each k (omega (arith, h)) in
    let rise : get_or ids k (pos 0) <ℤ get_or ids (suc k) (pos 0) = grind (arith, less_is, rises) in
    grind (arith, ints)

few_ids : (ids : List ℤ) → IsStrictlySortedBy int_cmp ids → All IsId ids → length ids ≤ 1000000000
few_ids ids up each = by (length ids) refl
  where
    by : (n : ℕ) → length ids ≡ n → length ids ≤ 1000000000
    by zero is = omega (arith, is)
    by (suc n) is =
        let low = at_least ids up each n (omega (arith, is)) in grind (arith, ints)

-- ---- a whole text

pub faultless_tree : (problem : ProblemParts) (text : List ℕ) → IsProblem problem → read_faults problem text ≡ []
    → All (NamesWhatIs problem) (tree_of problem text) × All CanBeWritten (tree_of problem text)
unfolding read_faults
faultless_tree problem text is_problem none =
    let ids = ids_of problem in
    let up : AreRising ids = (is_problem.lines_rise, is_problem.edges_rise) in
    let few = few_ids ids.edges up.1 (All-map IsId (λ (edge : BoundedEdge). edge.id) problem.edges
    (λ k d h. (is_problem.edges k d h).id)) in
    let small : length ids.edges ≤ 2 ^ 63 = omega (arith, few) in
    let input = tree_input ids in
    let table = table_of tree_columns text in
    let parts = parts_sound input text none in
    let sound = table_sound input table parts.1 in
    let last = (whole_rule_sound input table is_due why.OrderGap [] sound.2).0 in
    all_rows ids up small table (table_in_columns tree_columns text (unmapped _ _ parts.0)) sound.1 _ (λ so_far known.
    let told = due_told ids (records input table) so_far.nodes so_far.bound known.behind in
    let is = tree_read problem text table parts.0 refl ids refl sound.1 so_far known false
    (sym last ∙ told) refl (closed so_far.nodes so_far.bound) refl in
    (subst (All (NamesWhatIs problem)) is.1 is.2, subst (All CanBeWritten) is.1 is.3))
