-- A line problem has no more lines than there are ids, and what a concept of it costs fits.
use Rattle.plan_num.proofs.Common.{◌≡◌, ℕ, ℤ, pos, ◌+◌, ◌*◌, ◌≤◌, ◌<◌, ◌≤ℤ◌, ◌<ℤ◌, int_lt, List, []}
use Rattle.plan_num.proofs.Common.{◌∷◌, length, get_or, map, take, sum_by, suc, zip, slice_get}
use Rattle.plan_num.proofs.Common.{Some, option_map, unwrap_or, All, arith, sym, ap, ◌∙◌}
use Rattle.plan_num.proofs.Common.{AllByRecursion, int_cmp, ints, length-map, take_more, take_all}
use Rattle.plan_num.proofs.Common.{sum_by-append, mul-le, slice_get_within, get_or_from_slice_get}
use Rattle.plan_num.proofs.Common.{none-some, get_or-zip, length-zip}
use Rattle.std.specs.List.Sorted.{IsStrictlySortedBy}
use Rattle.std.specs.declared.cmp.Ordering.TheVariants.{Less}
use Rattle.line_cost_model.specs.declared.edge.BoundedEdge.{BoundedEdge}
use Rattle.line_cost_model.specs.Problems.{IsBoundedEdge, CostedLine, ProblemParts, IsCostedLine, IsProblem}
use Rattle.line_cost_model.specs.Concepts.{cost_of}
use Rattle.plan_num.proofs.Tests.{less_is}

-- an id lies between two bounds
abbrev LiesBetween : ℕ → ℕ → ℤ → Type 0
LiesBetween low high id = (pos low ≤ℤ id) × (id ≤ℤ pos high)

behind : (low high : ℕ) (id : ℤ) (ids : List ℤ) → LiesBetween low high id
    → AllByRecursion (λ other. int_cmp id other ≡ Less) ids → AllByRecursion (LiesBetween low high) ids
    → AllByRecursion (LiesBetween (low + 1) high) ids
behind low high id [] own rise all = tt
behind low high id (other ∷ ids) own rise all =
    grind (arith, less_is, ints, behind low high id ids own rise.1 all.1)

-- ids that rise between two bounds are no more than there are numbers between these
few_between : (low high : ℕ) (ids : List ℤ) → low ≤ high + 1 → IsStrictlySortedBy int_cmp ids
    → AllByRecursion (LiesBetween low high) ids → low + length ids ≤ high + 1
unfolding IsStrictlySortedBy
few_between low high [] h rise all = omega (arith, h)
few_between low high (id ∷ ids) h rise all =
    let room : low ≤ high = omega (arith, ints, all.0.0, all.0.1) in grind (
      arith,
      behind,
      few_between (low + 1) high ids (omega (arith, room)) rise.1 (behind low high id ids all.0
          rise.0 all.1),
    )

ids_between : (edges : ℕ) (lines : List CostedLine) → All (IsCostedLine edges) lines
    → AllByRecursion (LiesBetween 1 1000000000) (map (λ line. line.id) lines)
ids_between edges [] all = tt
ids_between edges (line ∷ lines) all =
    let first = all 0 line (omega arith) in
    ((first.id.low, first.id.high), ids_between edges lines (λ k d h. all (suc k) d (omega (arith, h))))

pub few_lines : (problem : ProblemParts) → IsProblem problem → length problem.lines ≤ 1000000000
few_lines problem sound =
    omega (
      arith,
      few_between 1 1000000000 (map (λ line. line.id) problem.lines) (omega arith) sound.lines_rise
          (ids_between (length problem.edges) problem.lines sound.lines),
      length-map problem.lines (λ line. line.id),
    )

bounded_ids : (edges : List BoundedEdge) → All IsBoundedEdge edges
    → AllByRecursion (LiesBetween 1 1000000000) (map (λ edge. edge.id) edges)
bounded_ids [] all = tt
bounded_ids (edge ∷ edges) all =
    let first = all 0 edge (omega arith) in
    ((first.id.low, first.id.high), bounded_ids edges (λ k d h. all (suc k) d (omega (arith, h))))

pub few_edges : (problem : ProblemParts) → IsProblem problem → length problem.edges ≤ 1000000000
few_edges problem sound = grind (arith, few_between, bounded_ids, length-map)

-- ---- costs

-- a line that is not there
abbrev pub no_line : CostedLine
no_line = record { id = pos 0; cost = 0; edges = [] }

-- a line that has a cost is there
there_with : (lines : List CostedLine) (line cost : ℕ) → option_map (λ at. at.cost) (slice_get lines line) ≡ Some cost
    → (line < length lines) × ((get_or lines line no_line).cost ≡ cost)
there_with lines line cost is =
    grind (
      arith,
      slice_get,
      option_map,
      get_or,
      none-some,
      slice_get_within,
      get_or_from_slice_get,
      unwrap_or,
    )

cheap_line : (problem : ProblemParts) (line cost : ℕ) → IsProblem problem
    → option_map (λ at. at.cost) (slice_get problem.lines line) ≡ Some cost → cost ≤ 1000000000000000000
cheap_line problem line cost sound is = grind (arith, there_with, get_or)

-- what one line adds to the cost of a concept
pub adds_little : (problem : ProblemParts) (line cost times : ℕ) → IsProblem problem
    → option_map (λ at. at.cost) (slice_get problem.lines line) ≡ Some cost → times < 4294967296
    → cost * times ≤ 4294967296000000000000000000
adds_little problem line cost times sound is few =
    omega (
      arith,
      mul-le cost times 1000000000000000000 4294967295
          (cheap_line problem line cost sound is) (omega (arith, few)),
    )

-- the cost of some first lines
abbrev cost_up_to : ProblemParts → List ℕ → ℕ → ℕ
cost_up_to problem fs line = sum_by (λ at. at.0.cost * at.1) (take line (zip problem.lines fs))

pub cost_more : (problem : ProblemParts) (fs : List ℕ) (line cost times : ℕ) → length fs ≡ length problem.lines
    → option_map (λ at. at.cost) (slice_get problem.lines line) ≡ Some cost → times ≡ get_or fs line 0
    → cost_up_to problem fs (line + 1) ≡ cost_up_to problem fs line + cost * times
cost_more problem fs line cost times same is times_is =
    let at = there_with problem.lines line cost is in
    let term : CostedLine × ℕ → ℕ = λ at. at.0.cost * at.1 in
    let all = zip problem.lines fs in
    let both = get_or-zip problem.lines fs line (no_line, 0) at.0 (omega (arith, at.0, same)) in
    let own : term (get_or all line (no_line, 0)) ≡ cost * times =
    ap term both ∙ ap (λ c. c * get_or fs line 0) at.1 ∙ ap (λ f. cost * f) (sym times_is) in
    ap (sum_by term) (take_more all line (no_line, 0) (omega (arith, at.0, same, length-zip problem.lines fs)))
    ∙ sum_by-append term (take line all) (get_or all line (no_line, 0) ∷ [])
    ∙ ap (λ more. cost_up_to problem fs line + more) (omega (arith, own))

pub cost_whole : (problem : ProblemParts) (fs : List ℕ) (count line : ℕ) → length fs ≡ length problem.lines
    → count ≡ length problem.lines → count ≤ line → cost_up_to problem fs line ≡ cost_of problem fs
cost_whole problem fs count line same all past =
    ap (sum_by (λ at. at.0.cost * at.1))
    (take_all line (zip problem.lines fs)
    (omega (arith, same, all, past, length-zip problem.lines fs)))
