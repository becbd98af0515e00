-- What always holds of multipliers and of a line problem, with one more at the end.
use Rattle.plan_num.proofs.Common.{◌≡◌, ℕ, ℤ, ◌+◌, ◌<◌, ◌<ℤ◌, Bool, cond, T, int_lt, List, [], ◌∷◌}
use Rattle.plan_num.proofs.Common.{◌++◌, length, map, filter, slice_get, ap, subst, sym, ◌∙◌, arith}
use Rattle.plan_num.proofs.Common.{inl, inr, ◌⊎◌, zero, suc, Some, All, enumerate_from}
use Rattle.plan_num.proofs.Common.{IsStrictlyIncreasing, int_cmp, map_push, append-nil, All-push}
use Rattle.plan_num.proofs.Common.{All-map, All-nil, same_Some}
use Rattle.std.specs.List.Sorted.{IsStrictlySortedBy}
use Rattle.std.specs.declared.cmp.Ordering.TheVariants.{Less, Equal, Greater}
use Rattle.line_cost_model.specs.declared.edge.BoundedEdge.{BoundedEdge}
use Rattle.line_cost_model.specs.declared.multipliers.Multiplier.{Multiplier}
use Rattle.line_cost_model.specs.Concepts.{goes_over}
use Rattle.line_cost_model.specs.Crossings.{CrossedEdge, AreCrossed}
use Rattle.line_cost_model.specs.Crossings.{lines_over}
use Rattle.line_cost_model.specs.Multipliers.{AreMultipliers, IsAfter, IsAmount}
use Rattle.line_cost_model.specs.Problems.{CostedLine, IsBoundedEdge, IsCostedLine, IsProblem}
use Rattle.line_cost_model.proofs.Rising.{increasing_push, sorted_push}
use Rattle.plan_num.proofs.Tests.{is_true}

-- ---- multipliers

pub multipliers_push : (list : List Multiplier) (edge amount : ℕ) → AreMultipliers list
    → IsAmount amount → IsAfter list edge
    → AreMultipliers (list ++ record { edge = edge; amount = amount } ∷ [])
multipliers_push list edge amount are is after = record {
  amounts = All-push (λ (one : Multiplier). IsAmount one.amount) list
      (record { edge = edge; amount = amount }) are.amounts is;
  edges_rise = subst IsStrictlyIncreasing
      (sym (map_push (λ (one : Multiplier). one.edge) list
      (record { edge = edge; amount = amount })))
      (increasing_push (map (λ (one : Multiplier). one.edge) list) edge are.edges_rise
      (All-map (λ (other : ℕ). other < edge) (λ (one : Multiplier). one.edge) list after));
}

-- ---- problems

less_than : (x y : ℤ) → x <ℤ y → int_cmp x y ≡ Less
less_than x y h = ap (λ b. cond b Less (cond (int_lt y x) Greater Equal)) (is_true (int_lt x y) h.lt)

ids_push : {X : Type 0} (id : X → ℤ) (xs : List X) (x : X)
    → IsStrictlySortedBy int_cmp (map id xs) → All (λ other. id other <ℤ id x) xs
    → IsStrictlySortedBy int_cmp (map id (xs ++ x ∷ []))
ids_push id xs x rise below =
    subst (IsStrictlySortedBy int_cmp) (sym (map_push id xs x))
    (sorted_push int_cmp (map id xs) (id x) rise
    (All-map (λ other. int_cmp other (id x) ≡ Less) id xs
    (λ k d h. less_than _ _ (below k d h))))

pub no_problem : IsProblem (record { edges = []; lines = [] })
unfolding IsStrictlySortedBy
no_problem = grind (arith, All-nil)

pub edge_push : (edges : List BoundedEdge) (edge : BoundedEdge)
    → IsProblem (record { edges = edges; lines = [] }) → IsBoundedEdge edge
    → All (λ other. other.id <ℤ edge.id) edges
    → IsProblem (record { edges = edges ++ edge ∷ []; lines = [] })
edge_push edges edge sound is rising = record {
  edges_rise = ids_push (λ (edge : BoundedEdge). edge.id) edges edge sound.edges_rise rising;
  lines_rise = sound.lines_rise;
  edges = All-push IsBoundedEdge edges edge sound.edges is;
  lines = All-nil (IsCostedLine (length (edges ++ edge ∷ [])));
}

pub line_push : (edges : List BoundedEdge) (lines : List CostedLine) (line : CostedLine)
    → IsProblem (record { edges = edges; lines = lines }) → IsCostedLine (length edges) line
    → All (λ other. other.id <ℤ line.id) lines
    → IsProblem (record { edges = edges; lines = lines ++ line ∷ [] })
line_push edges lines line sound is rising = record {
  edges_rise = sound.edges_rise;
  lines_rise = ids_push (λ (line : CostedLine). line.id) lines line sound.lines_rise rising;
  edges = sound.edges;
  lines = All-push (IsCostedLine (length edges)) lines line sound.lines is;
}

-- ---- the lines over edges

enumerated_push : {X : Type 0} (n : ℕ) (xs : List X) (x : X)
    → enumerate_from n (xs ++ x ∷ []) ≡ enumerate_from n xs ++ (n + length xs, x) ∷ []
enumerated_push n [] x = ap (λ m. (m, x) ∷ []) (omega arith)
enumerated_push n (y ∷ xs) x = ap (λ rest. (n, y) ∷ rest)
    (enumerated_push (n + 1) xs x
    ∙ ap (λ m. enumerate_from (n + 1) xs ++ (m, x) ∷ []) (omega arith))

filtered_push : {X : Type 0} (p : X → Bool) (xs : List X) (x : X)
    → filter p (xs ++ x ∷ []) ≡ filter p xs ++ cond (p x) (x ∷ []) []
filtered_push p [] x = grind arith
filtered_push p (y ∷ xs) x = grind (arith, filtered_push p xs x)

-- a line more goes over an edge, or not
pub over_push : (lines : List CostedLine) (line : CostedLine) (edge : ℕ)
    → lines_over (lines ++ line ∷ []) edge ≡ cond (goes_over edge line)
    (lines_over lines edge ++ length lines ∷ []) (lines_over lines edge)
unfolding lines_over
over_push lines line edge = grind (arith, enumerated_push, filtered_push, map_push, append-nil)

-- what stands in a list with one item more
pushed_there : {X : Type 0} (xs : List X) (x : X) (k : ℕ) (y : X)
    → slice_get (xs ++ x ∷ []) k ≡ Some y → (slice_get xs k ≡ Some y) ⊎ (y ≡ x)
pushed_there [] x zero y e = inr (sym (same_Some _ _ e))
pushed_there [] x (suc k) y e = cc
pushed_there (z ∷ xs) x zero y e = inl e
pushed_there (z ∷ xs) x (suc k) y e = pushed_there xs x k y e

pub crossed_none : AreCrossed [] []
crossed_none edge at there = cc

-- before there are lines none goes over an edge
pub crossed_by_none : (edges : List CrossedEdge) (bounds : BoundedEdge) → AreCrossed [] edges
    → AreCrossed [] (edges ++ record { bounds = bounds; lines = [] } ∷ [])
unfolding lines_over
crossed_by_none edges bounds are edge at there = grind (arith, pushed_there)
