-- What is known after some rows of a tree, with one row more.
use Rattle.plan_num.proofs.Common.{◌≡◌, ℕ, ℤ, pos, negsuc, ◌≤ℤ◌, ◌+◌, ◌-◌, ◌<◌, ◌≤◌, arith, Bool}
use Rattle.plan_num.proofs.Common.{true, false, cond, not, ◌||◌, ◌&&◌, nat_lt, int_lt, List, []}
use Rattle.plan_num.proofs.Common.{◌∷◌, ◌++◌, length, get_or, map, unsigned_abs, refl, ap, sym, ◌∙◌}
use Rattle.plan_num.proofs.Common.{append_assoc, append-nil, Option, Some, None, All, lt-ltb}
use Rattle.plan_num.proofs.Common.{le-ltb, ltb-false, cases_lt, ints, reverse-append, All-nil}
use Rattle.plan_num.proofs.Common.{All-push, fold_push}
use Rattle.line_cost_model.specs.declared.multipliers.Multiplier.{Multiplier}
use Rattle.line_cost_model.proofs.Common.{IsAmount, multipliers_push}
use Rattle.line_concepts.specs.declared.node.Node.{Node}
use Rattle.line_concepts.specs.declared.node.Node.TheVariants as node
use Rattle.branch_certificate.specs.declared.open_bound.OpenBound.{OpenBound}
use Rattle.branch_certificate.specs.declared.tree_row.TreeRow.{TreeRow}
use Rattle.branch_certificate.specs.ReadRows.{AreRising, SaysNode, SaysBound, SaysMultiplier}
use Rattle.branch_certificate.specs.ReadRows.{begins_inside, IsClosed, IsOpen, IsSoundBound}
use Rattle.branch_certificate.specs.ReadRows.{IsSoundNode, StandsBehind, is_due_in}
use Rattle.branch_certificate.specs.ReadRows.{taken_by, closed}
use Rattle.branch_certificate.specs.TreeFiles.{NamedIds, is_multiplier, is_due, due_after}
use Rattle.branch_certificate.specs.TreeFiles.{announced, falls_back, multiplier_in}
use Rattle.branch_certificate.specs.TreeFiles.{multiplier_rows, node_of, nodes_of}
use Rattle.plan_num.proofs.SortedIds.{found_twice}
use Rattle.branch_certificate.proofs.ReadRules.{within}
use Rattle.plan_num.proofs.Tests.{or_false}

-- ---- rows with one more

-- the nodes of rows before others
pub one_more : (ids : NamedIds) (before : List TreeRow) (row : TreeRow) (rest : List TreeRow)
    → nodes_of ids ((before ++ row ∷ []) ++ rest) ≡ nodes_of ids (before ++ row ∷ rest)
one_more ids before row rest = ap (nodes_of ids) (append_assoc before (row ∷ []) rest)

pub nodes_first : (ids : NamedIds) (row : TreeRow) (rest : List TreeRow)
    → nodes_of ids (row ∷ rest) ≡ node_of ids row rest ++ nodes_of ids rest
unfolding nodes_of
nodes_first ids row rest = refl

pub nodes_none : (ids : NamedIds) → nodes_of ids [] ≡ []
unfolding nodes_of
nodes_none ids = refl

-- how many are due
pub due_more : (before : List TreeRow) (row : TreeRow) (b : Bool) → is_multiplier row ≡ b
    → due_after (before ++ row ∷ []) ≡ cond b (due_after before - 1) (announced row)
due_more before row b is = grind (arith, fold_push)

-- whether an edge falls back
pub falls_more : (before : List TreeRow) (last row : TreeRow) (b : Bool) → is_multiplier last ≡ b
    → falls_back (before ++ last ∷ []) row ≡ ((b && not (int_lt last.id row.id)) || false)
falls_more before last row b is = grind (arith, int_lt, reverse-append)

pub inside_first : (row : TreeRow) (rest : List TreeRow) → is_multiplier row ≡ false
    → begins_inside (row ∷ rest) ≡ false
inside_first row rest is = ap (λ b. b || false) is

-- the multipliers right at the front of rows
pub no_multiplier : (rest : List TreeRow) → begins_inside rest ≡ false → multiplier_rows rest ≡ []
no_multiplier [] h = refl
no_multiplier (row ∷ rest) h = grind arith

pub multiplier_first : (row : TreeRow) (rest : List TreeRow) → is_multiplier row ≡ true
    → multiplier_rows (row ∷ rest) ≡ row ∷ multiplier_rows rest
multiplier_first row rest is = grind arith

-- ---- a node behind rows

module _ (ids : NamedIds) (before : List TreeRow) (row : TreeRow) (nodes : List Node) where
  pub node_more : (node : Node) → IsClosed ids before nodes → SaysNode ids row node
      → IsClosed ids (before ++ row ∷ []) (nodes ++ node ∷ [])
  node_more one h says = record {
    whole = λ rest inside.
        one_more ids before row rest ∙ h.whole (row ∷ rest) (inside_first row rest says.alone)
        ∙ ap (λ some. nodes ++ some) (nodes_first ids row rest
        ∙ ap (λ some. some ++ nodes_of ids rest) (says.stands_for rest))
        ∙ sym (append_assoc nodes (one ∷ []) (nodes_of ids rest));
    none_due = due_more before row false says.alone ∙ says.none_due;
  }

  pub bound_more : (count : ℕ) → IsClosed ids before nodes → SaysBound ids row count
      → IsOpen ids (before ++ row ∷ []) nodes (record { multipliers = []; next = 0; due = count })
  bound_more count h says = record {
    whole = λ rest.
        one_more ids before row rest ∙ h.whole (row ∷ rest) (inside_first row rest says.alone)
        ∙ ap (λ some. nodes ++ some) (nodes_first ids row rest
        ∙ ap (λ some. some ++ nodes_of ids rest) (says.stands_for rest));
    due = due_more before row false says.alone ∙ says.due;
    last = λ other edge stands. grind (arith, falls_more, le-ltb);
    sound = grind (arith, All-nil);
  }

-- ---- a multiplier behind rows

amount_of : (m : ℤ) → pos 1 ≤ℤ m → m ≤ℤ pos 1000000000000000000 → IsAmount (unsigned_abs m)
amount_of (pos n) low high = grind arith
amount_of (negsuc n) low high = absurd (omega (arith, ints, low))

module _ (ids : NamedIds) (before : List TreeRow) (row : TreeRow) (nodes : List Node)
    (bound : OpenBound) (edge : ℕ) (millionths : ℤ) (h : IsOpen ids before nodes bound)
    (said : SaysMultiplier ids row edge millionths) where
  abbrev added : Multiplier
  added = record { edge = edge; amount = unsigned_abs millionths }

  is_added : multiplier_in ids row ≡ added
  is_added = grind arith

  all_rows : (rest : List TreeRow)
      → bound.multipliers ++ map (multiplier_in ids) (multiplier_rows (row ∷ rest))
      ≡ (bound.multipliers ++ added ∷ []) ++ map (multiplier_in ids) (multiplier_rows rest)
  all_rows rest = grind (arith, multiplier_first, is_added, append_assoc)

  sound_more : nat_lt edge bound.next ≡ false → IsSoundBound ids (taken_by bound edge millionths)
  sound_more rising =
      let next : bound.next ≤ edge = ltb-false edge bound.next rising in
      let few = amount_of millionths said.some said.few in
      record {
        after = All-push (λ (one : Multiplier). one.edge < edge + 1) bound.multipliers added
            (λ k d l. let low : (get_or bound.multipliers k d).edge < bound.next = h.sound.after k d
            l in
            omega arith) (omega arith);
        are = multipliers_push bound.multipliers edge (unsigned_abs millionths) h.sound.are few
            (λ k d l. let low : (get_or bound.multipliers k d).edge < bound.next = h.sound.after k d
            l in
            omega arith);
        named = All-push (λ (one : Multiplier). one.edge < length ids.edges) bound.multipliers added
            h.sound.named (within ids.edges row.id edge said.stands);
      }

  pub multiplier_more : AreRising ids → nat_lt edge bound.next ≡ false
      → IsOpen ids (before ++ row ∷ []) nodes (taken_by bound edge millionths)
  multiplier_more up rising = record {
    whole = λ rest.
        one_more ids before row rest ∙ h.whole (row ∷ rest)
        ∙ ap (λ all. nodes ++ node.Bound all ∷ nodes_of ids (row ∷ rest)) (all_rows rest)
        ∙ ap (λ some. nodes ++ node.Bound ((bound.multipliers ++ added ∷ [])
        ++ map (multiplier_in ids) (multiplier_rows rest)) ∷ some)
        (nodes_first ids row rest ∙ ap (λ some. some ++ nodes_of ids rest) (said.stands_for rest));
    due = due_more before row true said.alone ∙ ap (λ n. n - 1) h.due;
    last = λ other place stands.
        falls_more before row other true said.alone
        ∙ or_false (not (int_lt row.id other.id))
        ∙ ap not (found_twice ids.edges row.id other.id edge place up.1 said.stands stands)
        ∙ not_before edge place;
    sound = sound_more rising;
  }
    where
      not_before : (i j : ℕ) → not (nat_lt i j) ≡ nat_lt j (i + 1)
      not_before i j = grind (arith, cases_lt, lt-ltb, le-ltb)

-- ---- a bound that ends

module _ (ids : NamedIds) (before : List TreeRow) (nodes : List Node) where
  pub due_told : (bound : Option OpenBound) → StandsBehind ids before nodes bound
      → is_due before ≡ is_due_in bound
  due_told None h = ap (nat_lt 0) h.none_due
  due_told (Some bound) h = ap (nat_lt 0) h.due

  pub ended : (bound : Option OpenBound) → StandsBehind ids before nodes bound
      → is_due_in bound ≡ false → IsClosed ids before (closed nodes bound)
  ended None h none = h
  ended (Some bound) h none = grind (arith, no_multiplier, append-nil, append_assoc, ltb-false)

  pub ended_sound : (bound : Option OpenBound) → StandsBehind ids before nodes bound
      → All (IsSoundNode ids) nodes → All (IsSoundNode ids) (closed nodes bound)
  ended_sound None h all = all
  ended_sound (Some bound) h all =
      All-push (IsSoundNode ids) nodes (node.Bound bound.multipliers) all
      (h.sound.named, h.sound.are)
