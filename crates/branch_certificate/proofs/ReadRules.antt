-- What a row of each kind says, and for which of the six rules it is refused.
use Rattle.plan_num.proofs.Common.{◌≡◌, ℕ, ℤ, zero, suc, pos, negsuc, ◌^◌, ◌+◌, ◌<◌, ◌≤◌, ◌≤ℤ◌}
use Rattle.plan_num.proofs.Common.{arith, Bool, true, false, cond, not, ◌||◌, List, [], ◌∷◌, ◌++◌}
use Rattle.plan_num.proofs.Common.{length, position, slice_get, unsigned_abs, int_lt, refl, ap}
use Rattle.plan_num.proofs.Common.{subst, unwrap_or, ◌∙◌, Option, Some, None, list_any}
use Rattle.plan_num.proofs.Common.{position_or_len, int_eq, ltb-false, not-true, not-false}
use Rattle.plan_num.proofs.Common.{same_Some, ints, list_any_at, position-Some}
use Rattle.tables.specs.declared.row_why.RowWhy.{RowWhy}
use Rattle.tables.specs.declared.row_why.RowWhy.TheVariants as why
use Rattle.line_cost_model.specs.declared.side.Side.{Side}
use Rattle.line_concepts.specs.declared.node.Node.TheVariants as node
use Rattle.branch_certificate.specs.declared.tree_row.TreeRow.{TreeRow}
use Rattle.branch_certificate.specs.ReadRows.{IsTreeRow, first_why, IsRefused, IsRefusedIf}
use Rattle.branch_certificate.specs.ReadRows.{SaysNode, SaysMultiplier}
use Rattle.branch_certificate.specs.TreeFiles.{NamedIds}
use Rattle.branch_certificate.specs.TreeFiles.{has_stray_cell, is_due, falls_back}
use Rattle.branch_certificate.specs.TreeFiles.{announced, node_of, side_of}
use Rattle.plan_num.proofs.Tests.{or_false, or_true}

-- ---- an id that is there

there : (ids : List ℤ) (id : ℤ) (place : ℕ) → position (int_eq id) ids ≡ Some place
    → list_any (int_eq id) ids ≡ true
there ids id place e =
    let at = position-Some (int_eq id) ids place (pos 0) e in grind (arith, list_any_at)

pub within : (ids : List ℤ) (id : ℤ) (place : ℕ) → position (int_eq id) ids ≡ Some place
    → place < length ids
within ids id place e = (position-Some (int_eq id) ids place (pos 0) e).0

past_all : (b : Bool) (n : ℕ) → cond b (Some n) None ≡ None → b ≡ false
past_all true n e = cc
past_all false n e = refl

none_passes : {X : Type 0} (p : X → Bool) (xs : List X) → length xs ≤ position_or_len p xs
    → list_any p xs ≡ false
none_passes p [] h = refl
none_passes p (x ∷ xs) h =
    elim (p x) as (λ b. suc (length xs) ≤ cond (not b) (1 + position_or_len p xs) 0
    → (b || list_any p xs) ≡ false) [
      | true ↦ λ l. absurd (omega arith)
      | false ↦ λ l. none_passes p xs (omega arith)
    ] h

missing : (ids : List ℤ) (id : ℤ) → position (int_eq id) ids ≡ None
    → list_any (int_eq id) ids ≡ false
missing ids id e = none_passes (int_eq id) ids (ltb-false _ _ (past_all _ _ e))

-- ---- the first of six rules that is broken

abbrev pub first_of : Bool → Bool → Bool → Bool → Bool → Bool → Option RowWhy
first_of a b c d e f =
    slice_get (cond a (why.UnknownLine ∷ []) [] ++ (cond b (why.UnknownEdge ∷ []) []
    ++ (cond c (why.OrderGap ∷ []) [] ++ (cond d (why.OrderGap ∷ []) []
    ++ (cond e (why.OrderGap ∷ []) []
    ++ (cond f (why.OrderGap ∷ []) [] ++ [])))))) 0

pub out_of_order : (c d e f g : Bool) → (c || (d || (e || f))) ≡ g
    → first_of false false c d e f ≡ cond g (Some why.OrderGap) None
out_of_order true d e f g h = ap (λ b. cond b (Some why.OrderGap) None) h
out_of_order false true e f g h = ap (λ b. cond b (Some why.OrderGap) None) h
out_of_order false false true f g h = ap (λ b. cond b (Some why.OrderGap) None) h
out_of_order false false false true g h = ap (λ b. cond b (Some why.OrderGap) None) h
out_of_order false false false false g h = ap (λ b. cond b (Some why.OrderGap) None) h

-- a row with another kind
abbrev pub with_kind : TreeRow → ℕ → TreeRow
with_kind row kind = record row { kind = pos kind }

at_most : (value : ℤ) (n : ℕ) → unsigned_abs value ≡ n → pos 0 ≤ℤ value
    → value ≤ℤ pos 1000000000 → n ≤ 1000000000
at_most (pos m) n e low high = omega (arith, ints, e, high)
at_most (negsuc m) n e low high = absurd (omega (arith, ints, low))

-- ---- a split

module _ (ids : NamedIds) (row : TreeRow) (kind : row.kind ≡ pos 0) where
  abbrev split : TreeRow
  split = with_kind row 0

  is_split_row : row ≡ split
  is_split_row = ap (λ k. record row { kind = k }) kind

  pub split_unknown : position (int_eq row.id) ids.lines ≡ None → IsRefused ids row why.UnknownLine
  split_unknown none before = grind (arith, is_split_row, missing)

  split_known : (line : ℕ) → position (int_eq row.id) ids.lines ≡ Some line → (b : Bool)
      → not (int_eq row.multiplier (pos 0)) ≡ b
      → IsRefusedIf ids row (λ before. is_due before || b)
  split_known line stands b stray before =
      grind (arith, is_split_row, there, out_of_order, or_false)

  pub split_stray : (line : ℕ) → position (int_eq row.id) ids.lines ≡ Some line
      → not (int_eq row.multiplier (pos 0)) ≡ true → IsRefused ids row why.OrderGap
  split_stray line stands stray before =
      split_known line stands true stray before
      ∙ ap (λ b. cond b (Some why.OrderGap) None) (or_true (is_due before))

  pub split_says : (line at : ℕ) → position (int_eq row.id) ids.lines ≡ Some line
      → not (int_eq row.multiplier (pos 0)) ≡ false → IsTreeRow row → unsigned_abs row.value ≡ at
      → SaysNode ids row (node.Split line at)
  split_says line at stands none cells is = record {
    alone = ap (λ k. int_eq k (pos 3)) kind;
    stands_for = λ behind. grind (arith, is_split_row, unwrap_or, unsigned_abs);
    none_due = ap announced is_split_row;
    place = λ before.
        split_known line stands false none before
        ∙ ap (λ b. cond b (Some why.OrderGap) None) (or_false (is_due before));
    sound = (
      within ids.lines row.id line stands,
      at_most row.value at is cells.value.0
          cells.value.1,
    );
  }

-- ---- an empty edge

module _ (ids : NamedIds) (row : TreeRow) (kind : row.kind ≡ pos 1) where
  abbrev empty : TreeRow
  empty = with_kind row 1

  is_empty_row : row ≡ empty
  is_empty_row = ap (λ k. record row { kind = k }) kind

  pub empty_unknown : position (int_eq row.id) ids.edges ≡ None → IsRefused ids row why.UnknownEdge
  empty_unknown none before = grind (arith, is_empty_row, int_lt, missing)

  empty_known : (edge : ℕ) → position (int_eq row.id) ids.edges ≡ Some edge → (a b : Bool)
      → int_lt (pos 1) row.value ≡ a → not (int_eq row.multiplier (pos 0)) ≡ b
      → IsRefusedIf ids row (λ before. is_due before || (a || b))
  empty_known edge stands a b side stray before =
      ap (first_why ids before) is_empty_row
      ∙ ap (λ b. first_of false (not b) (is_due before) false (int_lt (pos 1) row.value)
      (has_stray_cell empty)) (there ids.edges row.id edge stands)
      ∙ out_of_order (is_due before) false (int_lt (pos 1) row.value) (has_stray_cell empty)
      (is_due before || (a || b))
      (ap (λ x. is_due before || (x || has_stray_cell empty)) side
      ∙ ap (λ x. is_due before || (a || x)) (or_false _ ∙ or_false _ ∙ stray))

  no_side : (b : Bool) (side : Side) → cond b None (Some side) ≡ None → b ≡ true
  no_side true side e = refl
  no_side false side e = cc

  a_side : (b : Bool) (one other : Side) → cond b None (Some one) ≡ Some other
      → (b ≡ false) × (one ≡ other)
  a_side true one other e = cc
  a_side false one other e = (refl, same_Some one other e)

  pub empty_aside : (edge : ℕ) → position (int_eq row.id) ids.edges ≡ Some edge
      → cond (int_lt (pos 1) row.value) None (Some (side_of row.value)) ≡ None
      → IsRefused ids row why.OrderGap
  empty_aside edge stands none before =
      empty_known edge stands true _ (no_side _ _ none) refl before
      ∙ ap (λ b. cond b (Some why.OrderGap) None) (or_true (is_due before))

  pub empty_stray : (edge : ℕ) → position (int_eq row.id) ids.edges ≡ Some edge
      → not (int_eq row.multiplier (pos 0)) ≡ true → IsRefused ids row why.OrderGap
  empty_stray edge stands stray before =
      empty_known edge stands _ true refl stray before
      ∙ ap (λ b. cond (is_due before || b) (Some why.OrderGap) None)
      (or_true (int_lt (pos 1) row.value))
      ∙ ap (λ b. cond b (Some why.OrderGap) None) (or_true (is_due before))

  pub empty_says : (edge : ℕ) (side : Side) → position (int_eq row.id) ids.edges ≡ Some edge
      → cond (int_lt (pos 1) row.value) None (Some (side_of row.value)) ≡ Some side
      → not (int_eq row.multiplier (pos 0)) ≡ false → SaysNode ids row (node.Empty edge side)
  empty_says edge side stands named none =
      let one = a_side _ _ _ named in
      record {
        alone = ap (λ k. int_eq k (pos 3)) kind;
        stands_for = λ behind. grind (arith, is_empty_row, unwrap_or);
        none_due = ap announced is_empty_row;
        place = λ before.
            empty_known edge stands false false one.0 none before
            ∙ ap (λ b. cond b (Some why.OrderGap) None) (or_false (is_due before));
        sound = (within ids.edges row.id edge stands, tt);
      }

-- ---- a multiplier

some_of : (m : ℤ) → pos 0 ≤ℤ m → not (int_eq m (pos 0)) ≡ true → pos 1 ≤ℤ m
some_of (pos zero) h e = cc
some_of (pos (suc n)) h e = omega (arith, ints)
some_of (negsuc n) h e = absurd (omega (arith, ints, h))

module _ (ids : NamedIds) (row : TreeRow) (kind : row.kind ≡ pos 3) where
  abbrev multiplier : TreeRow
  multiplier = with_kind row 3

  is_multiplier_row : row ≡ multiplier
  is_multiplier_row = ap (λ k. record row { kind = k }) kind

  pub multiplier_unknown : position (int_eq row.id) ids.edges ≡ None
      → IsRefused ids row why.UnknownEdge
  multiplier_unknown none before = grind (arith, is_multiplier_row, missing)

  multiplier_known : (edge : ℕ) → position (int_eq row.id) ids.edges ≡ Some edge → (a b : Bool)
      → int_eq row.multiplier (pos 0) ≡ a → not (int_eq row.value (pos 0)) ≡ b
      → IsRefusedIf ids row (λ before. not (is_due before) || ((falls_back before row || a) || b))
  multiplier_known edge stands a b none stray before =
      let falls = falls_back before row in
      ap (first_why ids before) is_multiplier_row
      ∙ ap (λ b. first_of false (not b) (not (is_due before))
      (falls || int_eq row.multiplier (pos 0)) false (has_stray_cell multiplier))
      (there ids.edges row.id edge stands)
      ∙ out_of_order (not (is_due before)) (falls || int_eq row.multiplier (pos 0)) false
      (has_stray_cell multiplier) (not (is_due before) || ((falls || a) || b))
      (ap (λ x. not (is_due before) || ((falls || x) || has_stray_cell multiplier)) none
      ∙ ap (λ x. not (is_due before) || ((falls || a) || x)) (or_false _ ∙ stray))

  pub multiplier_stray : (edge : ℕ) → position (int_eq row.id) ids.edges ≡ Some edge
      → not (int_eq row.value (pos 0)) ≡ true → IsRefused ids row why.OrderGap
  multiplier_stray edge stands stray before =
      multiplier_known edge stands _ true refl stray before
      ∙ ap (λ b. cond (not (is_due before) || b) (Some why.OrderGap) None)
      (or_true (falls_back before row || int_eq row.multiplier (pos 0)))
      ∙ ap (λ b. cond b (Some why.OrderGap) None) (or_true (not (is_due before)))

  pub multiplier_of_0 : (edge : ℕ) → position (int_eq row.id) ids.edges ≡ Some edge
      → not (int_eq row.multiplier (pos 0)) ≡ false → IsRefused ids row why.OrderGap
  multiplier_of_0 edge stands none before =
      multiplier_known edge stands true _ (not-false _ none) refl before
      ∙ ap (λ b. cond (not (is_due before) || (b || not (int_eq row.value (pos 0))))
      (Some why.OrderGap) None)
      (or_true (falls_back before row))
      ∙ ap (λ b. cond b (Some why.OrderGap) None) (or_true (not (is_due before)))

  pub multiplier_says : (edge : ℕ) (millionths : ℤ) → position (int_eq row.id) ids.edges ≡ Some edge
      → edge < 2 ^ 63 → not (int_eq row.value (pos 0)) ≡ false
      → not (int_eq row.multiplier (pos 0)) ≡ true → IsTreeRow row → row.multiplier ≡ millionths
      → SaysMultiplier ids row edge millionths
  multiplier_says edge millionths stands small none some cells is = record {
    alone = ap (λ k. int_eq k (pos 3)) kind;
    stands_for = λ behind. ap (λ r. node_of ids r behind) is_multiplier_row;
    stands = stands;
    amount = is;
    some = subst (λ m. pos 1 ≤ℤ m) is (some_of row.multiplier cells.multiplier.0 some);
    few = subst (λ m. m ≤ℤ pos 1000000000000000000) is cells.multiplier.1;
    small = small;
    place = λ before.
        multiplier_known edge stands false false (not-true _ some) none before
        ∙ ap (λ b. cond (not (is_due before) || b) (Some why.OrderGap) None)
        (or_false _ ∙ or_false (falls_back before row));
  }
