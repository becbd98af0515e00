-- How many multipliers a bound can have: no more than there are edges, and these have ids.
use Rattle.plan_num.proofs.Common.{◌≡◌, ℕ, ℤ, suc, pos, ◌+◌, ◌<◌, ◌≤◌, ◌≤ℤ◌, ◌<ℤ◌, int_lt, arith}
use Rattle.plan_num.proofs.Common.{List, [], ◌∷◌, length, get_or, map, All, AllByRecursion}
use Rattle.plan_num.proofs.Common.{IsStrictlyIncreasing, int_cmp, ints, length-map}
use Rattle.std.specs.List.Sorted.{IsStrictlySortedBy}
use Rattle.std.specs.declared.cmp.Ordering.TheVariants.{Less}
use Rattle.line_cost_model.specs.declared.edge.BoundedEdge.{BoundedEdge}
use Rattle.line_cost_model.specs.declared.multipliers.Multiplier.{Multiplier}
use Rattle.line_cost_model.proofs.Common.{AreMultipliers, IsBoundedEdge, IsProblem, ProblemParts}
use Rattle.plan_num.proofs.Tests.{less_is}

-- ---- edges that rise

-- each edge is from a number on, and the others above it
abbrev pub ClimbFrom : ℕ → List Multiplier → Type 0
ClimbFrom next [] = Unit {0}
ClimbFrom next (one ∷ rest) = (next ≤ one.edge) × ClimbFrom (one.edge + 1) rest

pub climbs : (next : ℕ) (multipliers : List Multiplier)
    → IsStrictlyIncreasing (map (λ one. one.edge) multipliers)
    → (0 < length multipliers → next ≤ get_or (map (λ one. one.edge) multipliers) 0 0)
    → ClimbFrom next multipliers
climbs next [] up low = tt
climbs next (one ∷ rest) up low = (
  low (omega arith),
  climbs (one.edge + 1) rest (λ k h. later k h)
      first,
)
  where
    edges : List ℕ
    edges = map (λ (one : Multiplier). one.edge) rest

    later : (k : ℕ) → k + 1 < length edges → get_or edges k 0 < get_or edges (k + 1) 0
    later k h =
        let next : suc k + 1 ≡ suc (k + 1) = omega arith in
        let above : get_or (one.edge ∷ edges) (suc k) 0 < get_or (one.edge ∷ edges) (suc k + 1) 0 =
        up (suc k) (omega arith) in grind arith

    first : 0 < length rest → one.edge + 1 ≤ get_or edges 0 0
    first h = grind (arith, get_or, length-map)

few_climb : (most next : ℕ) (multipliers : List Multiplier) → next ≤ most
    → ClimbFrom next multipliers
    → All (λ one. one.edge < most) multipliers → next + length multipliers ≤ most
few_climb most next [] h climb below = omega arith
few_climb most next (one ∷ rest) h climb below =
    let own : one.edge < most = below 0 one (omega arith) in grind (
      arith,
      few_climb most (one.edge
          + 1) rest (omega arith) climb.1 (λ k d l. below (suc k) d (omega arith)),
    )

-- ---- ids that rise

abbrev LiesBetween : ℕ → ℕ → ℤ → Type 0
LiesBetween low high id = (pos low ≤ℤ id) × (id ≤ℤ pos high)

behind : (low high : ℕ) (id : ℤ) (ids : List ℤ) → LiesBetween low high id
    → AllByRecursion (λ other. int_cmp id other ≡ Less) ids
    → AllByRecursion (LiesBetween low high) ids
    → AllByRecursion (LiesBetween (low + 1) high) ids
behind low high id [] own rise all = tt
behind low high id (other ∷ ids) own rise all =
    grind (arith, less_is, ints, behind low high id ids own rise.1 all.1)

few_between : (low high : ℕ) (ids : List ℤ) → low ≤ high + 1 → IsStrictlySortedBy int_cmp ids
    → AllByRecursion (LiesBetween low high) ids → low + length ids ≤ high + 1
unfolding IsStrictlySortedBy
few_between low high [] h rise all = omega (arith, h)
few_between low high (id ∷ ids) h rise all =
    let room : low ≤ high = omega (arith, ints, all.0.0, all.0.1) in grind (
      arith,
      behind,
      few_between (low + 1) high ids (omega (arith, room)) rise.1 (behind low high id ids all.0
          rise.0 all.1),
    )

ids_between : (edges : List BoundedEdge) → All IsBoundedEdge edges
    → AllByRecursion (LiesBetween 1 1000000000) (map (λ edge. edge.id) edges)
ids_between [] all = tt
ids_between (edge ∷ edges) all =
    let first = all 0 edge (omega arith) in
    ((first.id.low, first.id.high), ids_between edges (λ k d h. all (suc k) d (omega (arith, h))))

pub few_edges : (problem : ProblemParts) → IsProblem problem → length problem.edges ≤ 1000000000
few_edges problem sound = grind (arith, few_between, ids_between, length-map)

pub climb_of : (multipliers : List Multiplier) → AreMultipliers multipliers
    → ClimbFrom 0 multipliers
climb_of multipliers are = climbs 0 multipliers are.edges_rise (λ h. omega arith)

-- multipliers of the edges of a problem are few
pub few_multipliers : (problem : ProblemParts) (multipliers : List Multiplier) → IsProblem problem
    → AreMultipliers multipliers → All (λ one. one.edge < length problem.edges) multipliers
    → length multipliers ≤ 1000000000
few_multipliers problem multipliers sound are named =
    omega (
      arith,
      few_climb (length problem.edges) 0 multipliers (omega arith) (climb_of multipliers are) named,
      few_edges problem sound,
    )
