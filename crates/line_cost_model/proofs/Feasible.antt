-- The test of feasible concepts, edge by edge.
use Rattle.plan_num.proofs.Common.{◌≡◌, ℕ, ◌+◌, ◌≤◌, ◌&&◌, ◌==◌, ◌↔◌, Bool, true, List, [], ◌∷◌}
use Rattle.plan_num.proofs.Common.{length, drop, slice_get, Some, option_map, unwrap_or, IsTrue}
use Rattle.plan_num.proofs.Common.{zero, suc, refl, arith, sym, ap, subst, ◌∙◌, list_all}
use Rattle.plan_num.proofs.Common.{enumerate_from, drop_more, drop_all, eq-eqb, eqb-true, and_parts}
use Rattle.plan_num.proofs.Common.{le-leb, slice_get_within, get_or_from_slice_get, none-some}
use Rattle.line_cost_model.specs.declared.edge.BoundedEdge.{BoundedEdge}
use Rattle.line_cost_model.specs.Problems.{ProblemParts}
use Rattle.line_cost_model.specs.Concepts.{IsFeasible, KeepsBounds, is_feasible, keeps_bounds}

-- the edges that are left, with their indexes
abbrev pub left_from : List BoundedEdge → ℕ → List (ℕ × BoundedEdge)
left_from edges edge = enumerate_from edge (drop edge edges)

pub left_more : (edges : List BoundedEdge) (edge : ℕ) (at : BoundedEdge) → slice_get edges edge ≡ Some at
    → left_from edges edge ≡ (edge, at) ∷ left_from edges (edge + 1)
left_more edges edge at there =
    ap (enumerate_from edge) (drop_more edges edge at (slice_get_within edges edge at there)
    ∙ ap (λ at. at ∷ drop (edge + 1) edges) (get_or_from_slice_get edges edge at at there))

pub left_none : (edges : List BoundedEdge) (edge : ℕ) → length edges ≤ edge → left_from edges edge ≡ []
left_none edges edge past = ap (enumerate_from edge) (drop_all edge edges past)

pub feasible_first : (problem : ProblemParts) (f : List ℕ) → length f ≡ length problem.lines
    → is_feasible problem f ≡ list_all (keeps_bounds problem.lines f) (enumerate_from 0 problem.edges)
unfolding is_feasible
feasible_first problem f same = ap
    (λ b. b && list_all (keeps_bounds problem.lines f) (enumerate_from 0 problem.edges))
    (eq-eqb (length f) (length problem.lines) same)

-- edges keep their bounds from an index on
abbrev KeepFrom : ProblemParts → List ℕ → ℕ → List BoundedEdge → Type 0
KeepFrom problem f first edges = (edge : ℕ) (at : BoundedEdge) → slice_get edges edge ≡ Some at
    → KeepsBounds problem.lines f (first + edge) at

shown : (problem : ProblemParts) (f : List ℕ) (edge : ℕ) (at : BoundedEdge)
    → KeepsBounds problem.lines f edge at → keeps_bounds problem.lines f (edge, at) ≡ true
shown problem f edge at keeps = grind (arith, le-leb)

tested_from : (problem : ProblemParts) (f : List ℕ) (first : ℕ) (edges : List BoundedEdge)
    → list_all (keeps_bounds problem.lines f) (enumerate_from first edges) ≡ true → KeepFrom problem f first edges
tested_from problem f first [] h edge at there = absurd (none-some at there)
tested_from problem f first (one ∷ edges) h zero at there = grind arith
tested_from problem f first (one ∷ edges) h (suc edge) at there =
    let both = and_parts (keeps_bounds problem.lines f (first, one))
    (list_all (keeps_bounds problem.lines f) (enumerate_from (first + 1) edges)) h in grind (
      arith,
      tested_from problem f (first + 1) edges both.1 edge at there,
    )

test_from : (problem : ProblemParts) (f : List ℕ) (first : ℕ) (edges : List BoundedEdge)
    → KeepFrom problem f first edges → list_all (keeps_bounds problem.lines f) (enumerate_from first edges) ≡ true
test_from problem f first [] keep = refl
test_from problem f first (one ∷ edges) keep =
    rw (shown problem f first one (subst (λ n. KeepsBounds problem.lines f n one) (omega arith) (keep 0 one refl)))
    (test_from problem f (first + 1) edges
    (λ edge at there. subst (λ n. KeepsBounds problem.lines f n at) (omega arith) (keep (suc edge) at there)))

-- what the test tells
pub test_means : (problem : ProblemParts) (f : List ℕ) (answer : Bool) → answer ≡ is_feasible problem f
    → IsTrue answer ↔ IsFeasible problem f
unfolding is_feasible
test_means problem f answer is = (
  λ yes.
      let both = and_parts (length f == length problem.lines)
      (list_all (keeps_bounds problem.lines f) (enumerate_from 0 problem.edges))
      (sym is ∙ yes) in
      record {
        each = eqb-true (length f) (length problem.lines) both.0;
        bounds = λ edge at there. subst (λ n. KeepsBounds problem.lines f n at) (omega arith)
            (tested_from problem f 0 problem.edges both.1 edge at there);
      },
  λ feasible.
      let all = test_from problem f 0 problem.edges
      (λ edge at there. subst (λ n. KeepsBounds problem.lines f n at) (omega arith)
      (feasible.bounds edge at there)) in grind (arith, eq-eqb),
)

-- ---- one edge more

-- a test of the edges that are left, where the first of them answers so
pub tested_more : (test : ℕ × BoundedEdge → Bool) (edges : List BoundedEdge) (edge : ℕ) (answer : Bool)
    → option_map (λ at. test (edge, at)) (slice_get edges edge) ≡ Some answer
    → list_all test (left_from edges edge) ≡ (answer && list_all test (left_from edges (edge + 1)))
tested_more test edges edge answer is =
    grind (arith, slice_get, option_map, none-some, left_more, unwrap_or)

pub tested_end : (test : ℕ × BoundedEdge → Bool) (edges : List BoundedEdge) (edge : ℕ) → length edges ≤ edge
    → list_all test (left_from edges edge) ≡ true
tested_end test edges edge past = ap (list_all test) (left_none edges edge past)
