-- What is known of a region by what is said of it.
use Rattle.plan_num.proofs.Common.{◌≡◌, ℕ, zero, suc, ◌+◌, ◌-◌, ◌<◌, ◌≤◌, nat_le, List, [], ◌∷◌}
use Rattle.plan_num.proofs.Common.{length, filter_map, slice_get, Option, Some, None, IfSome}
use Rattle.plan_num.proofs.Common.{option_map, unwrap_or, refl, ap, sym, subst, ◌∙◌, arith, inl}
use Rattle.plan_num.proofs.Common.{inr, AllByRecursion, cons_option, enumerate_from, length-map}
use Rattle.plan_num.proofs.Common.{none-some, ltb-false, leb-true, leb-false, cases_Bool}
use Rattle.line_cost_model.specs.declared.edge.BoundedEdge.{BoundedEdge}
use Rattle.line_cost_model.specs.declared.range.LineRange.{LineRange}
use Rattle.line_cost_model.specs.declared.side.Side.{Side}
use Rattle.line_cost_model.proofs.Common.{IsFeasible, cost_of, frequency_on, dual_bound}
use Rattle.line_cost_model.proofs.Common.{multipliers_of, CostedLine, ProblemParts, IsEmptyAt}
use Rattle.line_cost_model.proofs.Common.{empty_edges, empty_side, greatest_in, has_several}
use Rattle.line_cost_model.proofs.Common.{least_in, range_of}
use Rattle.line_cost_model.specs.Regions.{empty_edge}
use Rattle.line_concepts.specs.declared.node.Node.{Node}
use Rattle.line_concepts.specs.declared.node.Node.TheVariants as node
use Rattle.line_concepts.specs.Certified.{ShowsEmpty}
use Rattle.line_concepts.specs.Firsts.{first_of}
use Rattle.line_concepts.specs.Listings.{as_bound, as_split, first_open, middle, node_at, open_at}
use Rattle.line_concepts.proofs.Lengths.{AreOrdered, open_from}
use Rattle.line_concepts.proofs.LineOrder.{before, before_self, before_through, least_found}
use Rattle.plan_num.proofs.Lists.{none_first}

some_then : {X : Type 0} (P Q : X → Type 0) (o : Option X) → IfSome o P → ((x : X) → P x → Q x)
    → IfSome o Q
some_then P Q None h f = tt
some_then P Q (Some x) h f = f x h

-- ---- edges that are empty, and those that are not

side_shows : (lines : List CostedLine) (region : List LineRange) (edge : ℕ) (bounds : BoundedEdge)
    (found : Side) → empty_side lines region edge bounds ≡ Some found
    → IsEmptyAt lines region edge bounds found
side_shows lines region edge bounds found is = grind arith

-- the sides of edges from one on
abbrev sides_on : ProblemParts → List LineRange → ℕ → List BoundedEdge → List (ℕ × Side)
sides_on problem region n edges =
    filter_map (λ at. option_map (λ side. (at.0, side)) (empty_side problem.lines region at.0 at.1))
    (enumerate_from n edges)

record ShowsFrom (problem : ProblemParts) (region : List LineRange) (n : ℕ) (edges : List BoundedEdge)
    (found : ℕ × Side) : Type 0 where
  bounds : BoundedEdge
  above : n ≤ found.0
  there : slice_get edges (found.0 - n) ≡ Some bounds
  empty : IsEmptyAt problem.lines region found.0 bounds found.1

first_side : (problem : ProblemParts) (region : List LineRange) (n : ℕ) (edges : List BoundedEdge)
    → IfSome (slice_get (sides_on problem region n edges) 0) (ShowsFrom problem region n edges)
first_side problem region n [] = tt
first_side problem region n (bounds ∷ edges) =
    by (empty_side problem.lines region n bounds) refl (sides_on problem region (n + 1) edges)
    (first_side problem region (n + 1) edges)
  where
    behind : (found : ℕ × Side) → ShowsFrom problem region (n + 1) edges found
        → ShowsFrom problem region n (bounds ∷ edges) found
    behind found h = grind (arith, slice_get)

    by : (told : Option Side) → empty_side problem.lines region n bounds ≡ told
        → (rest : List (ℕ × Side)) → IfSome (slice_get rest 0) (ShowsFrom problem region (n + 1) edges)
        → IfSome (slice_get (cons_option (option_map (λ side. (n, side)) told) rest) 0)
        (ShowsFrom problem region n (bounds ∷ edges))
    by None is rest h = some_then _ _ (slice_get rest 0) h behind
    by (Some found) is rest h = record {
      bounds = bounds;
      above = omega arith;
      there = let none : n - n ≡ zero = omega arith in ap (slice_get (bounds ∷ edges)) none;
      empty = side_shows problem.lines region n bounds found is;
    }

empty_shows : (problem : ProblemParts) (region : List LineRange)
    → IfSome (empty_edge problem region) (λ found. ShowsEmpty problem region found.0 found.1)
unfolding empty_edge
empty_shows problem region =
    some_then (ShowsFrom problem region 0 problem.edges)
    (λ found. ShowsEmpty problem region found.0 found.1)
    (slice_get (empty_edges problem region) 0) (first_side problem region 0 problem.edges)
    (λ found h. let index : found.0 - 0 ≡ found.0 = omega arith
    in (h.bounds, ap (slice_get problem.edges) (sym index) ∙ h.there, h.empty))

-- ---- where no edge is empty

none_on : (problem : ProblemParts) (region : List LineRange) (n : ℕ) (edges : List BoundedEdge)
    → sides_on problem region n edges ≡ [] → (k : ℕ) (bounds : BoundedEdge)
    → slice_get edges k ≡ Some bounds → empty_side problem.lines region (n + k) bounds ≡ None
none_on problem region n [] none k bounds there = absurd (none-some bounds there)
none_on problem region n (a ∷ edges) none k bounds there =
    by (empty_side problem.lines region n a) refl (none_on problem region (n + 1) edges) none k there
  where
    by : (told : Option Side) → empty_side problem.lines region n a ≡ told
        → (sides_on problem region (n + 1) edges ≡ [] → (k : ℕ) (bounds : BoundedEdge)
        → slice_get edges k ≡ Some bounds
        → empty_side problem.lines region (n + 1 + k) bounds ≡ None)
        → cons_option (option_map (λ side. (n, side)) told) (sides_on problem region (n + 1) edges) ≡ []
        → (k : ℕ) → slice_get (a ∷ edges) k ≡ Some bounds
        → empty_side problem.lines region (n + k) bounds ≡ None
    by (Some found) is more none k there = absurd (cc)
    by None is more none zero there = grind arith
    by None is more none (suc k) there =
        let index : n + 1 + k ≡ n + suc k = omega arith in grind arith

side_none : (lines : List CostedLine) (region : List LineRange) (edge : ℕ) (bounds : BoundedEdge)
    → empty_side lines region edge bounds ≡ None
    → (frequency_on lines (least_in region) edge ≤ bounds.most)
    × (bounds.least ≤ frequency_on lines (greatest_in region) edge)
side_none lines region edge bounds none = grind arith

-- ---- regions of one concept

abbrev pub IsOneConcept : List LineRange → Type 0
IsOneConcept region = AllByRecursion (λ range. range.lo ≡ range.hi) region

ends_same : (region : List LineRange) → IsOneConcept region → least_in region ≡ greatest_in region
ends_same [] one = refl
ends_same (range ∷ region) one = λ i. one.0 i ∷ ends_same region one.1 i

-- where its edges are not empty that concept is feasible
one_feasible : (problem : ProblemParts) (region : List LineRange)
    → length region ≡ length problem.lines → IsOneConcept region → empty_edge problem region ≡ None
    → IsFeasible problem (least_in region)
unfolding empty_edge
one_feasible problem region long one none = record {
  each = length-map region (λ (range : LineRange). range.lo) ∙ long;
  bounds = λ edge at there.
      let start : 0 + edge ≡ edge = omega arith in
      let side = subst (λ m. empty_side problem.lines region m at ≡ None) start
      (none_on problem region 0 problem.edges (none_first (empty_edges problem region) none)
      edge at there) in grind (arith, side_none, ends_same);
}

all_closed : (n : ℕ) (lines : List CostedLine) (region : List LineRange)
    → length region ≡ length lines → AreOrdered region → open_from n lines region ≡ []
    → IsOneConcept region
all_closed n lines [] long ordered none = tt
all_closed n [] (range ∷ region) long ordered none = absurd (omega (arith, long))
all_closed n (line ∷ lines) (range ∷ region) long ordered none =
    elim (cases_Bool (has_several range)) [
      | inl is ↦ absurd (let e = rw is at none in cc)
      | inr is ↦ grind (
        arith,
        ltb-false,
        all_closed (n + 1) lines region (omega (arith, long))
            ordered.1 (rw is at none),
      )
    ]

no_option : {X Y : Type 0} (f : X → Y) (o : Option X) → option_map f o ≡ None → o ≡ None
no_option f None none = refl
no_option f (Some x) none = absurd (cc)

-- without an open line it is one concept
none_open : (problem : ProblemParts) (region : List LineRange)
    → length region ≡ length problem.lines → AreOrdered region → first_open problem region ≡ None
    → IsOneConcept region
none_open problem region long ordered none =
    all_closed 0 problem.lines region long ordered
    (least_found before before_self before_through (open_at problem region)
    (no_option (λ (at : ℕ × CostedLine). at.0) _ none))

-- ---- by what is said

module _ (problem : ProblemParts) (region : List LineRange) (best : Option (List ℕ)) (P : Node → Type 0)
    (long : length region ≡ length problem.lines) (ordered : AreOrdered region)
    (empty : (edge : ℕ) (side : Side) → ShowsEmpty problem region edge side → P (node.Empty edge side))
    (bound : (y : List ℕ) → best ≡ Some y → cost_of problem y ≤ dual_bound problem region
    → P (node.Bound (multipliers_of problem region)))
    (split : (line : ℕ) → first_open problem region ≡ Some line → P (node.Split line (middle (range_of region line))))
    (point : IsOneConcept region → IsFeasible problem (least_in region)
    → IfSome best (λ y. dual_bound problem region < cost_of problem y) → P node.Point) where
  last : empty_edge problem region ≡ None
      → IfSome best (λ y. dual_bound problem region < cost_of problem y)
      → P (unwrap_or (first_of (as_split problem region ∷ [])) node.Point)
  last none above = grind (arith, unwrap_or, option_map, none_open, one_feasible)

  not_empty : empty_edge problem region ≡ None
      → P (unwrap_or (first_of (as_bound problem region best ∷ as_split problem region ∷ [])) node.Point)
  not_empty none = grind (arith, unwrap_or, last, nat_le, leb-true, leb-false)

  pub said : P (node_at problem region best)
  said = by (empty_edge problem region) refl (empty_shows problem region)
    where
      by : (o : Option (ℕ × Side)) → empty_edge problem region ≡ o
          → IfSome o (λ found. ShowsEmpty problem region found.0 found.1)
          → P (unwrap_or (first_of
          (option_map (λ at. node.Empty at.0 at.1) o ∷ as_bound problem region best ∷ as_split
          problem region ∷ [])) node.Point)
      by None is shows = not_empty is
      by (Some found) is shows = empty found.0 found.1 shows
