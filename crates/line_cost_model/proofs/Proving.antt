-- What multipliers prove, one by one: each is of an edge that is there, and there are not too many.
use Rattle.plan_num.proofs.Common.{◌≡◌, ℕ, zero, suc, ◌+◌, ◌*◌, ◌≤◌, ◌<◌, List, [], ◌∷◌, length}
use Rattle.plan_num.proofs.Common.{get_or, map, take, slice_get, Some, option_map, unwrap_or, All}
use Rattle.plan_num.proofs.Common.{sum_by, arith, ap, subst, ◌∙◌, IsStrictlyIncreasing, take_all}
use Rattle.plan_num.proofs.Common.{length-map, get_or-map, sum_by-append, mul-le, slice_get_within}
use Rattle.plan_num.proofs.Common.{get_or_from_slice_get}
use Rattle.line_cost_model.specs.declared.multipliers.Multiplier.{Multiplier}
use Rattle.line_cost_model.specs.declared.range.LineRange.{LineRange}
use Rattle.line_cost_model.specs.Problems.{ProblemParts}
use Rattle.line_cost_model.specs.Concepts.{cost_of}
use Rattle.line_cost_model.specs.DualBounds.{bound_by, shortfall, shortfall_at}
use Rattle.line_cost_model.specs.Multipliers.{AreMultipliers, IsAmount}
use Rattle.line_cost_model.specs.Regions.{least_in}
use Rattle.line_cost_model.proofs.Paying.{first_more}

-- what holds of each item holds of the one at an index
pub holds_at : {X : Type 0} (P : X → Type 0) (xs : List X) (i : ℕ) (x : X) → All P xs
    → slice_get xs i ≡ Some x → P x
holds_at P xs i x all there = subst P (get_or_from_slice_get xs i x x there)
    (all i x (slice_get_within xs i x there))

-- numbers that rise are not below their places
not_below : (xs : List ℕ) → IsStrictlyIncreasing xs → (k : ℕ) → k < length xs → k ≤ get_or xs k 0
not_below xs rise zero within = omega arith
not_below xs rise (suc k) within =
    grind (arith, get_or, not_below xs rise k (omega (arith, within)))

pub few_places : (multipliers : List Multiplier) (place : ℕ) (one : Multiplier)
    → AreMultipliers multipliers
    → slice_get multipliers place ≡ Some one → place ≤ one.edge
few_places multipliers place one are there =
    let within = slice_get_within multipliers place one there in
    let edge_of : Multiplier → ℕ = λ multiplier. multiplier.edge in
    let low = not_below (map edge_of multipliers) are.edges_rise place
    (omega (arith, within, length-map multipliers edge_of)) in grind (
      arith,
      get_or,
      get_or-map,
      get_or_from_slice_get,
    )

pub adds_little : (multipliers : List Multiplier) (place missing : ℕ) (one : Multiplier)
    → AreMultipliers multipliers
    → slice_get multipliers place ≡ Some one → missing < 4294967296
    → one.amount * missing ≤ 4294967296000000000000000000
adds_little multipliers place missing one are there few =
    let amount = holds_at (λ (multiplier : Multiplier). IsAmount multiplier.amount) multipliers
    place one are.amounts there in grind (arith, mul-le)

-- before the first multiplier, and one multiplier more
pub bound_first : (problem : ProblemParts) (region : List LineRange) (multipliers : List Multiplier)
    (value : ℕ)
    → value ≡ cost_of problem (least_in region) → value
    ≡ bound_by problem region (take 0 multipliers)
unfolding bound_by
bound_first problem region multipliers value is = omega (arith, is)

pub bound_more : (problem : ProblemParts) (region : List LineRange) (multipliers : List Multiplier)
    (value place missing : ℕ)
    (one : Multiplier) → slice_get multipliers place ≡ Some one
    → option_map (shortfall problem.lines region one.edge) (slice_get problem.edges one.edge)
    ≡ Some missing
    → value ≡ bound_by problem region (take place multipliers)
    → value + one.amount * missing ≡ bound_by problem region (take (place + 1) multipliers)
unfolding bound_by
bound_more problem region multipliers value place missing one there short is =
    let weighed : Multiplier → ℕ = λ multiplier. multiplier.amount * shortfall_at problem region
    multiplier.edge in
    let more : sum_by weighed (take (place + 1) multipliers)
    ≡ sum_by weighed (take place multipliers) + weighed one =
    ap (sum_by weighed) (first_more problem region multipliers place one there)
    ∙ sum_by-append weighed (take place multipliers) (one ∷ []) ∙ omega arith in
    let own : weighed one ≡ one.amount * missing = ap (λ o. one.amount * unwrap_or o 0) short in
    omega (arith, is, more, own)

pub bound_whole : (problem : ProblemParts) (region : List LineRange) (multipliers : List Multiplier)
    (place : ℕ)
    → length multipliers ≤ place → bound_by problem region (take place multipliers)
    ≡ bound_by problem region multipliers
bound_whole problem region multipliers place past = ap (bound_by problem region)
    (take_all place multipliers past)
