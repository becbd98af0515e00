-- The index of an id, and the rows of multipliers that are read back.
use Rattle.plan_num.proofs.Common.{◌≡◌, ℕ, ℤ, pos, zero, suc, ◌-◌, ◌<◌, arith, true, false, cond}
use Rattle.plan_num.proofs.Common.{not, ◌||◌, nat_lt, int_eq, List, [], ◌∷◌, ◌++◌, length, get_or}
use Rattle.plan_num.proofs.Common.{map, position, slice_get, refl, sym, ap, subst, ◌∙◌}
use Rattle.plan_num.proofs.Common.{append_assoc, append-nil, Some, None, option_map, unwrap_or, All}
use Rattle.plan_num.proofs.Common.{IsStrictlySortedBy, int_cmp, lt-ltb, le-ltb, int_cmp_total}
use Rattle.plan_num.proofs.Common.{tied_itself, get_or_default, length-map}
use Rattle.tables.specs.declared.row_why.RowWhy.{RowWhy}
use Rattle.tables.proofs.Common.{broken_whys, KeepRules}
use Rattle.tables.specs.declared.row_why.RowWhy.TheVariants as why
use Rattle.line_cost_model.specs.declared.multipliers.Multiplier.{Multiplier}
use Rattle.line_cost_model.proofs.Common.{IsAmount}
use Rattle.line_concepts.specs.declared.node.Node.{Node}
use Rattle.line_concepts.specs.declared.node.Node.TheVariants as node
use Rattle.branch_certificate.specs.declared.open_bound.OpenBound.{OpenBound}
use Rattle.branch_certificate.specs.declared.tree_row.TreeRow.{TreeRow}
use Rattle.branch_certificate.specs.ReadRows.{IsClosed, IsOpen, SaysMultiplier, first_why, taken_by}
use Rattle.branch_certificate.specs.TreeFiles.{NamedIds, is_due, due_after, falls_back, tree_rules}
use Rattle.plan_num.proofs.SortedIds.{found}
use Rattle.branch_certificate.proofs.ReadSteps.{multiplier_more, ended}
use Rattle.line_concepts.proofs.FewMultipliers.{ClimbFrom}

-- ---- the index of an id

pub id_is : {X : Type 0} (id : X → ℤ) (xs : List X) (i : ℕ) → i < length xs
    → unwrap_or (option_map id (slice_get xs i)) (pos 0) ≡ get_or (map id xs) i (pos 0)
id_is id [] i h = absurd (omega arith)
id_is id (x ∷ xs) zero h = refl
id_is id (x ∷ xs) (suc i) h = id_is id xs i (omega arith)

-- the id at an index stands there first
pub own_index : {X : Type 0} (id : X → ℤ) (xs : List X) (i : ℕ)
    → IsStrictlySortedBy int_cmp (map id xs)
    → i < length xs
    → position (int_eq (unwrap_or (option_map id (slice_get xs i)) (pos 0))) (map id xs) ≡ Some i
own_index id xs i up h =
    let ids = map id xs in
    let size : i < length ids = omega (arith, length-map xs id) in
    ap (λ one. position (int_eq one) ids) (id_is id xs i h)
    ∙ found ids (get_or ids i (pos 0)) up i size (λ d.
    ap (λ one. int_cmp one (get_or ids i (pos 0))) (get_or_default ids i d (pos 0) size)
    ∙ tied_itself int_cmp_total (get_or ids i (pos 0)))

-- ---- rules that are kept

no_why : (whys : List RowWhy) → slice_get whys 0 ≡ None → whys ≡ []
no_why [] e = refl
no_why (x ∷ whys) e = cc

pub keep_both : (rules : List _) (before some more : List TreeRow) → KeepRules rules before some
    → KeepRules rules (before ++ some) more → KeepRules rules before (some ++ more)
keep_both rules before [] more first second =
    subst (λ all. KeepRules rules all more) (append-nil before) second
keep_both rules before (row ∷ some) more first second = (
  first.0,
  keep_both rules (before ++ row ∷ []) some more first.1
      (subst (λ all. KeepRules rules all more) (sym (append_assoc before (row ∷ []) some)) second),
)

module _ (ids : NamedIds) (before : List TreeRow) (row : TreeRow) where
  -- a row in its place breaks no rule where none is due
  pub kept_here : due_after before ≡ 0
      → first_why ids before row ≡ cond (is_due before) (Some why.OrderGap) None
      → broken_whys (tree_rules ids) before row ≡ []
  kept_here none place =
      no_why _ (place ∙ ap (λ n. cond (nat_lt 0 n) (Some why.OrderGap) None) none)

-- ---- the rows of multipliers

module _ (ids : NamedIds) (nodes : List Node) (row_of : Multiplier → TreeRow)
    (says : (one : Multiplier) → IsAmount one.amount → one.edge < length ids.edges
    → SaysMultiplier ids (row_of one) one.edge (pos one.amount)) where
  abbrev with_multipliers : OpenBound → List Multiplier → List Node
  with_multipliers bound rest = nodes ++ node.Bound (bound.multipliers ++ rest) ∷ []

  pub multipliers_kept : (up : IsStrictlySortedBy int_cmp ids.lines
      × IsStrictlySortedBy int_cmp ids.edges)
      → (rest : List Multiplier) (before : List TreeRow) (bound : OpenBound)
      → IsOpen ids before nodes bound → bound.due ≡ length rest → ClimbFrom bound.next rest
      → All (λ one. IsAmount one.amount) rest → All (λ one. one.edge < length ids.edges) rest
      → KeepRules (tree_rules ids) before (map row_of rest)
      × IsClosed ids (before ++ map row_of rest) (with_multipliers bound rest)
  multipliers_kept up [] before bound h due climb amounts named = (
    tt,
    subst (λ all. IsClosed ids all (with_multipliers bound [])) (sym (append-nil before))
        (subst (λ all. IsClosed ids before (nodes ++ node.Bound all ∷ []))
        (sym (append-nil bound.multipliers))
        (ended ids before nodes (Some bound) h (ap (nat_lt 0) due))),
  )
  multipliers_kept up (one ∷ rest) before bound h due climb amounts named =
      let row = row_of one in
      let said = says one (amounts 0 one (omega arith)) (named 0 one (omega arith)) in
      let rising : nat_lt one.edge bound.next ≡ false = le-ltb one.edge bound.next climb.0 in
      let is_late : is_due before ≡ true = ap (nat_lt 0) (h.due ∙ due)
      ∙ lt-ltb 0 (suc (length rest)) (omega arith) in
      let none : broken_whys (tree_rules ids) before row ≡ [] = no_why _ (
      said.place before
      ∙ ap (λ b. cond (not b || falls_back before row) (Some why.OrderGap) None) is_late
      ∙ ap (λ b. cond b (Some why.OrderGap) None) (h.last row one.edge said.stands ∙ rising)) in
      let next = multiplier_more ids before row nodes bound one.edge (pos one.amount) h said up
      rising in
      let left : bound.due - 1 ≡ length rest = omega (arith, due) in
      let others = multipliers_kept up rest (before ++ row ∷ [])
      (taken_by bound one.edge (pos one.amount))
      next left climb.1 (λ k d l. amounts (suc k) d (omega arith))
      (λ k d l. named (suc k) d (omega arith)) in (
        (none, others.0),
        subst (λ all. IsClosed ids all (with_multipliers bound (one ∷ rest)))
            (append_assoc before (row ∷ []) (map row_of rest))
            (subst (λ all. IsClosed ids ((before ++ row ∷ []) ++ map row_of rest)
            (nodes ++ node.Bound all ∷ []))
            (append_assoc bound.multipliers (one ∷ []) rest) others.1),
      )
