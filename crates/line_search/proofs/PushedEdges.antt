-- Edges with their bounds, one after the other.
use Rattle.plan_num.proofs.Common.{◌≡◌, ℕ, ℤ, pos, negsuc, ◌+◌, ◌≤◌, ◌≤ℤ◌, ◌<ℤ◌, arith, List, []}
use Rattle.plan_num.proofs.Common.{◌∷◌, ◌++◌, length, map, take, slice_get, zip, unsigned_abs, to_z}
use Rattle.plan_num.proofs.Common.{of_z, w64, refl, ap, subst, sym, ◌∙◌, Some, option_map, All}
use Rattle.plan_num.proofs.Common.{IsStrictlySortedBy, int_cmp, ints, length-map, slice_get-map}
use Rattle.std.proofs.Common.{FitsSigned}
use Rattle.std.proofs.lemmas.Int.{to_z-of_z}
use Rattle.walks.specs.declared.edge.Edge.{Edge}
use Rattle.ptn_network.specs.declared.edge_load.EdgeLoad.{EdgeLoad}
use Rattle.ptn_network.specs.Loads.{IsLoad}
use Rattle.line_cost_model.specs.declared.edge.BoundedEdge.{BoundedEdge}
use Rattle.line_cost_model.proofs.Common.{IsBoundedEdge, IsId, map_more, map_whole}
use Rattle.line_search.specs.GivenProblems.{bounded_by}
use Rattle.line_search.proofs.ConceptRows.{zip_length}
use Rattle.line_concepts.proofs.Lists.{below, zip_at}

-- the edges with their bounds
abbrev pub bounded : List Edge → List EdgeLoad → List BoundedEdge
bounded edges loads = map (λ at. bounded_by at.0 at.1) (zip edges loads)

-- they have the ids of the edges
pub bounded_ids : (edges : List Edge) (loads : List EdgeLoad) → length loads ≡ length edges
    → map (λ (edge : BoundedEdge). edge.id) (bounded edges loads)
    ≡ map (λ (edge : Edge). edge.id) edges
bounded_ids [] loads each = refl
bounded_ids (edge ∷ edges) [] each = absurd (omega (arith, each))
bounded_ids (edge ∷ edges) (load ∷ loads) each =
    ap (λ ids. edge.id ∷ ids) (bounded_ids edges loads (omega (arith, each)))

-- and there are as many
pub bounded_length : (edges : List Edge) (loads : List EdgeLoad) → length loads ≡ length edges
    → length (bounded edges loads) ≡ length edges
bounded_length edges loads each =
    length-map (zip edges loads) (λ at. bounded_by at.0 at.1) ∙ zip_length edges loads each

-- all of them
pub edges_whole : (edges : List Edge) (loads : List EdgeLoad) (i : ℕ) → length loads ≡ length edges
    → length edges ≤ i → take i (bounded edges loads) ≡ bounded edges loads
edges_whole edges loads i each past = grind (arith, map_whole, zip_length)

-- a load bounds its edge
pub is_bounded : (edge : Edge) (load : EdgeLoad) → IsId edge.id → IsLoad load
    → IsBoundedEdge (bounded_by edge load)
is_bounded edge load id sound = grind arith

-- numbers that are not negative and not too great fit into a word
pub fits : (x : ℤ) → pos 0 ≤ℤ x → x ≤ℤ pos 1000000000000000000 → FitsSigned w64 x
fits (pos n) low high = record { sfits = omega (arith, ints, high) }
fits (negsuc n) low high = absurd (omega (arith, ints, low))

-- an id is not changed on its way through a word
pub told_id : (id : ℤ) → IsId id → to_z w64 (of_z w64 id) ≡ id
told_id id sound =
    to_z-of_z w64 id (fits id (omega (arith, ints, sound.low)) (omega (arith, ints, sound.high)))

-- the edge of what is told of it
pub told_edge : (edge : Edge) (load : EdgeLoad) (least most : ℕ) → IsId edge.id → IsLoad load
    → least ≡ unsigned_abs (to_z w64 (of_z w64 load.least))
    → most ≡ unsigned_abs (to_z w64 (of_z w64 load.most))
    → record { id = to_z w64 (of_z w64 edge.id); least = least; most = most } ≡ bounded_by edge load
told_edge edge load least most id sound p q = grind (arith, unsigned_abs, to_z-of_z, ints, told_id)

module _ (edges : List Edge) (loads : List EdgeLoad) (i : ℕ) (edge : Edge) (load : EdgeLoad)
    (at : slice_get edges i ≡ Some edge) (loaded : slice_get loads i ≡ Some load) where
  pair : option_map (λ at. bounded_by at.0 at.1) (slice_get (zip edges loads) i)
      ≡ Some (bounded_by edge load)
  pair = ap (option_map (λ at. bounded_by at.0 at.1)) (zip_at edges loads i edge load at loaded)

  -- one more
  pub edges_more : take (i + 1) (bounded edges loads)
      ≡ take i (bounded edges loads) ++ bounded_by edge load ∷ []
  edges_more = map_more (λ at. bounded_by at.0 at.1) (zip edges loads) i (bounded_by edge load) pair

  -- which is above those before it
  pub edges_below : length loads ≡ length edges
      → IsStrictlySortedBy int_cmp (map (λ (edge : Edge). edge.id) edges)
      → All (λ (other : BoundedEdge). other.id <ℤ edge.id) (take i (bounded edges loads))
  edges_below each rise =
      below (λ (other : BoundedEdge). other.id) (bounded edges loads) i (bounded_by edge load)
      (subst (IsStrictlySortedBy int_cmp) (sym (bounded_ids edges loads each)) rise)
      (slice_get-map (λ at. bounded_by at.0 at.1) (zip edges loads) i ∙ pair)
