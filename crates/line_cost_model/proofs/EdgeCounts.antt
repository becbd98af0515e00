-- How many edges show that a region has no feasible concept, and on which drives are missing.
use Rattle.plan_num.proofs.Common.{◌≡◌, ◌≢◌, ◌∙◌, ℕ, zero, suc, ◌+◌, ◌≤◌, ◌<◌, Bool, true, false}
use Rattle.plan_num.proofs.Common.{nat_lt, if◌then◌else◌, List, [], ◌∷◌, ◌++◌, length, get_or}
use Rattle.plan_num.proofs.Common.{slice_get, slice_set, Option, Some, None, option_map, filter_map}
use Rattle.plan_num.proofs.Common.{replicate, sum_by, refl, ap, sym, subst, arith, inl, inr}
use Rattle.plan_num.proofs.Common.{get_or-set_other, get_or-set_same, range_with_len, cases_eq}
use Rattle.plan_num.proofs.Common.{le-ltb, get_or-replicate, length-replicate, length-set}
use Rattle.plan_num.proofs.Common.{length-range_with_len, sum_by-cons, sum_by-le}
use Rattle.plan_num.proofs.Common.{get_or_from_slice_get, slice_get-get_or}
use Rattle.line_cost_model.specs.declared.edge.BoundedEdge.{BoundedEdge}
use Rattle.line_cost_model.specs.declared.edge_sums.EdgeSums.{EdgeSums}
use Rattle.line_cost_model.specs.declared.range.LineRange.{LineRange}
use Rattle.line_cost_model.specs.declared.side.Side.{Side}
use Rattle.line_cost_model.specs.declared.side.Side.TheVariants as side
use Rattle.line_cost_model.specs.Problems.{ProblemParts}
use Rattle.line_cost_model.specs.Regions.{empty_edge, empty_side}
use Rattle.line_cost_model.specs.RunningSums.{AreSums, IsOfGreatest, IsOfLeast, at_edge, no_bounds}
use Rattle.line_cost_model.specs.RunningSums.{over, over_edges, under}
use Rattle.line_cost_model.proofs.EmptyEdges.{first_from, first_is, first_more}
use Rattle.line_cost_model.proofs.Feasible.{left_none}

-- ---- sums over numbers in a row

pub range_more : (a n : ℕ) → range_with_len a (n + 1) ≡ range_with_len a n ++ (a + n) ∷ []
range_more a zero = ap (λ n. n ∷ []) (omega arith)
range_more a (suc n) = grind (arith, range_more (a + 1) n)

pub zero_plus : (n : ℕ) → 0 + n ≡ n
zero_plus n = omega arith

same_sums : (f g : ℕ → ℕ) (a n : ℕ) → ((e : ℕ) → a ≤ e → f e ≡ g e)
    → sum_by f (range_with_len a n) ≡ sum_by g (range_with_len a n)
same_sums f g a zero same = refl
same_sums f g a (suc n) same = grind (
  arith,
  sum_by-cons,
  same_sums f g (a + 1) n (λ e h. same e
      (omega (arith, h))),
)

-- two sums whose terms differ at one number alone
sums_apart : (f g : ℕ → ℕ) (p a n : ℕ) → ((e : ℕ) → e ≢ p → f e ≡ g e) → a ≤ p → p < a + n
    → sum_by g (range_with_len a n) + f p ≡ sum_by f (range_with_len a n) + g p
sums_apart f g p a zero same low high = absurd (omega (arith, low, high))
sums_apart f g p a (suc n) same low high =
    let left = sum_by-cons f a (range_with_len (a + 1) n) in
    let right = sum_by-cons g a (range_with_len (a + 1) n) in
    elim (cases_eq a p) [
      | inl here ↦ grind (arith, same_sums)
      | inr other ↦
          let later : a + 1 ≤ p = omega (arith, low, other) in
          let rest = sums_apart f g p (a + 1) n same later (omega (arith, high)) in
          omega (arith, left, right, rest, same a other)
    ]

-- ---- one edge is driven more or less often

at_most : (told : BoundedEdge → ℕ → ℕ) (edges : List BoundedEdge) (sums : List ℕ)
    → ((bounds : BoundedEdge) (sum : ℕ) → told bounds sum ≤ 1) → over_edges told edges sums ≤ length edges
at_most told edges sums one =
    let all = sum_by-le (at_edge told edges sums) 1 (range_with_len 0 (length edges)) (λ k d h. one _ _) in
    omega (arith, all, length-range_with_len 0 (length edges))

abbrev one_of : Bool → ℕ
one_of b = if b then 1 else 0

one_where : (b : Bool) → one_of b ≤ 1
one_where true = omega arith
one_where false = omega arith

pub few_over : (edges : List BoundedEdge) (sums : List ℕ) → over_edges over edges sums ≤ length edges
few_over edges sums = at_most over edges sums (λ bounds sum. one_where (nat_lt bounds.most sum))

pub few_under : (edges : List BoundedEdge) (sums : List ℕ) → over_edges under edges sums ≤ length edges
few_under edges sums = at_most under edges sums (λ bounds sum. one_where (nat_lt sum bounds.least))

-- the sum over all edges, where one sum changes
pub edge_put : (told : BoundedEdge → ℕ → ℕ) (edges : List BoundedEdge) (sums : List ℕ) (edge sum before : ℕ)
    (bounds : BoundedEdge) → length sums ≡ length edges → edge < length edges
    → slice_get edges edge ≡ Some bounds → before ≡ get_or sums edge 0
    → over_edges told edges (slice_set sums edge sum) + told bounds before
    ≡ over_edges told edges sums + told bounds sum
edge_put told edges sums edge sum before bounds size there is before_is =
    let f = at_edge told edges sums in
    let g = at_edge told edges (slice_set sums edge sum) in
    let apart = sums_apart f g edge 0 (length edges)
    (λ k other. ap (told (get_or edges k no_bounds)) (sym (get_or-set_other sums edge k sum 0 other)))
    (omega arith) (omega (arith, there)) in
    let at : get_or edges edge no_bounds ≡ bounds = get_or_from_slice_get edges edge bounds no_bounds is in
    let old : f edge ≡ told bounds before = λ i. told (at i) (sym before_is i) in
    let new : g edge ≡ told bounds sum =
    λ i. told (at i) (get_or-set_same sums edge sum 0 (omega (arith, size, there)) i) in
    omega (arith, apart, old, new)

pub least_put : (edges : List BoundedEdge) (sums : List ℕ) (short : List Bool)
    (over_count over_now edge sum before : ℕ) (bounds : BoundedEdge)
    → IsOfLeast edges sums short over_count → edge < length edges → slice_get edges edge ≡ Some bounds
    → before ≡ get_or sums edge 0
    → over_now + over bounds before ≡ over_count + over bounds sum
    → IsOfLeast edges (slice_set sums edge sum) (slice_set short edge (nat_lt sum bounds.least)) over_now
least_put edges sums short over_count over_now edge sum before bounds least there is before_is counted =
    let at : get_or edges edge no_bounds ≡ bounds = get_or_from_slice_get edges edge bounds no_bounds is in
    record {
      size = length-set sums edge sum ∙ least.size;
      few = least.few;
      marks = length-set short edge (nat_lt sum bounds.least) ∙ least.marks;
      short_is = λ k within. grind (
        arith,
        cases_eq,
        get_or,
        slice_set,
        nat_lt,
        get_or-set_same,
        get_or-set_other,
      );
      over_is = grind (arith, edge_put);
    }

pub greatest_put : (edges : List BoundedEdge) (sums : List ℕ) (under_count under_now edge sum before : ℕ)
    (bounds : BoundedEdge) → IsOfGreatest edges sums under_count → edge < length edges
    → slice_get edges edge ≡ Some bounds → before ≡ get_or sums edge 0
    → under_now + under bounds before ≡ under_count + under bounds sum
    → IsOfGreatest edges (slice_set sums edge sum) under_now
greatest_put edges sums under_count under_now edge sum before bounds greatest there is before_is counted =
    grind (arith, length-set, edge_put)

no_less : (most : ℕ) → one_of (nat_lt most 0) ≤ 0
no_less most = subst (λ b. one_of b ≤ 0) (sym (le-ltb most 0 (omega arith))) (omega arith)

-- no edge is driven too often by no drives
none_over : (edges : List BoundedEdge) (n : ℕ) → over_edges over edges (replicate n 0) ≡ 0
none_over edges n =
    let all = sum_by-le (at_edge over edges (replicate n 0)) 0 (range_with_len 0 (length edges))
    (λ k d h. never (get_or (range_with_len 0 (length edges)) k d)) in grind arith
  where
    zeros : (n k : ℕ) → get_or {A = ℕ} (replicate n 0) k 0 ≡ 0
    zeros zero k = refl
    zeros (suc n) zero = refl
    zeros (suc n) (suc k) = zeros n k

    never : (edge : ℕ) → at_edge over edges (replicate n 0) edge ≤ 0
    never edge = subst (λ sum. over (get_or edges edge no_bounds) sum ≤ 0) (sym (zeros n edge)) (no_less _)

pub zero_sums : (edges : List BoundedEdge) (sums : List ℕ) (short : List Bool) → length edges ≤ 1000000000
    → sums ≡ replicate (length edges) 0 → length short ≡ length edges
    → ((edge : ℕ) → edge < length edges
    → get_or short edge false ≡ nat_lt 0 (get_or edges edge no_bounds).least)
    → IsOfLeast edges sums short 0
zero_sums edges sums short few zero_is marks told = subst (λ sums. IsOfLeast edges sums short 0) (sym zero_is) (record {
  size = length-replicate (length edges) 0;
  few = few;
  marks = marks;
  short_is = λ edge within. grind (arith, nat_lt, get_or, get_or-replicate);
  over_is = sym (none_over edges (length edges));
})

-- one edge more is told
pub told_here : (told : BoundedEdge → ℕ → ℕ) (edges : List BoundedEdge) (sums : List ℕ) (edge result before : ℕ)
    (bounds : BoundedEdge) → slice_get edges edge ≡ Some bounds → before ≡ get_or sums edge 0
    → result ≡ told bounds before → result ≡ at_edge told edges sums edge
told_here told edges sums edge result before bounds is before_is result_is =
    result_is ∙ (λ i. told (sym (get_or_from_slice_get edges edge bounds no_bounds is) i) (before_is i))

-- ---- no edge is missed

zero_each : (f : ℕ → ℕ) (a n : ℕ) → sum_by f (range_with_len a n) ≡ 0 → (e : ℕ) → a ≤ e → e < a + n
    → f e ≡ 0
zero_each f a zero none e low high = absurd (omega (arith, low, high))
zero_each f a (suc n) none e low high =
    let all = sum_by-cons f a (range_with_len (a + 1) n) in
    elim (cases_eq a e) [
      | inl same ↦ omega (arith, ap f same, all, none)
      | inr other ↦ zero_each f (a + 1) n (omega (arith, all, none)) e (omega (arith, low, other))
          (omega (arith, high))
    ]

abbrev side_by : Bool → Bool → Option Side
side_by above below = if above then Some side.Over else (if below then Some side.Under else None)

no_side : (above below : Bool) → one_of above ≡ 0 → one_of below ≡ 0 → side_by above below ≡ None
no_side true below none not = absurd (omega (arith, none))
no_side false true none not = absurd (omega (arith, not))
no_side false false none not = refl

none_from : (problem : ProblemParts) (ranges : List LineRange) (n edge : ℕ)
    → ((e : ℕ) → e < length problem.edges
    → empty_side problem.lines ranges e (get_or problem.edges e no_bounds) ≡ None)
    → edge + n ≡ length problem.edges → first_from problem ranges edge ≡ None
none_from problem ranges zero edge none all =
    grind (arith, slice_get, filter_map, option_map, left_none)
none_from problem ranges (suc n) edge none all =
    let within : edge < length problem.edges = omega (arith, all) in
    first_more problem ranges edge None
    (ap (option_map (empty_side problem.lines ranges edge)) (slice_get-get_or problem.edges edge no_bounds within)
    ∙ ap Some (none edge within))
    ∙ none_from problem ranges n (edge + 1) none (omega (arith, all))

pub none_empty : (problem : ProblemParts) (ranges : List LineRange) (sums : EdgeSums)
    → AreSums problem ranges sums → sums.least.over ≡ 0 → sums.greatest.under ≡ 0
    → empty_edge problem ranges ≡ None
none_empty problem ranges sums are no_over no_under =
    let least = sums.least.sums.items in
    let greatest = sums.greatest.sums.items in
    first_is problem ranges ∙ none_from problem ranges (length problem.edges) 0 (λ e within.
    let bounds = get_or problem.edges e no_bounds in
    let over_here = zero_each (at_edge over problem.edges least) 0 (length problem.edges)
    (sym are.of_least.over_is ∙ no_over) e (omega arith) (omega (arith, within)) in
    let under_here = zero_each (at_edge under problem.edges greatest) 0 (length problem.edges)
    (sym are.of_greatest.under_is ∙ no_under) e (omega arith) (omega (arith, within)) in
    (λ i. side_by (nat_lt bounds.most (sym (are.least_are.told e within) i))
    (nat_lt (sym (are.greatest_are.told e within) i) bounds.least))
    ∙ no_side (nat_lt bounds.most (get_or least e 0)) (nat_lt (get_or greatest e 0) bounds.least) over_here under_here)
    (omega arith)
