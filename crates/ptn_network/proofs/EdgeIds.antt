-- Edges by their ids.
use Rattle.plan_num.proofs.Common.{arith, ◌≡◌, ℕ, ℤ, ◌<◌, Bool, true, false, cond, List, length}
use Rattle.plan_num.proofs.Common.{map, get_or, slice_get, position, refl, ap, sym, ◌∙◌, Some, None}
use Rattle.plan_num.proofs.Common.{is_some, find, position_or_len, int_eq, ltb-false}
use Rattle.plan_num.proofs.Common.{Decides-int_eq, find_at, position-Some, cond_some}
use Rattle.plan_num.proofs.Common.{slice_get_past, slice_get-get_or}
use Rattle.tables.proofs.Common.{position-map}
use Rattle.walks.specs.declared.edge.Edge.{Edge}
use Rattle.walks.proofs.Common.{no_edge}
use Rattle.ptn_network.specs.Ids.{edge_with, StandsAt}

nothing_chosen : {X : Type 0} (b : Bool) (x : X) → cond b (Some x) None ≡ None → b ≡ false
nothing_chosen true x e = cc
nothing_chosen false x e = refl

-- what stands at the first place is found
pub found_at : {X : Type 0} (p : X → Bool) (xs : List X) (place : ℕ) → position p xs ≡ Some place
    → find p xs ≡ slice_get xs place
found_at p xs place e = find_at p xs ∙ ap (slice_get xs)
    (cond_some _ (position_or_len p xs) place e).1

-- where there is no first place nothing is found
pub found_nowhere : {X : Type 0} (p : X → Bool) (xs : List X) → position p xs ≡ None
    → find p xs ≡ None
found_nowhere p xs e = grind (arith, find_at, slice_get_past, ltb-false, nothing_chosen)

module _ (edges : List Edge) (id : ℤ) where
  -- the edge at the index of its id
  pub edge_at : (index : ℕ) (edge : Edge) → StandsAt edges id index
      → slice_get edges index ≡ Some edge → edge_with edges id ≡ Some edge
  edge_at index edge stands is = found_at (λ edge. int_eq id edge.id) edges index stands ∙ is

  -- an index among ids is one among edges
  pub stands_at : (index : ℕ) → position (int_eq id) (map (λ edge. edge.id) edges) ≡ Some index
      → StandsAt edges id index
  stands_at index e = sym (position-map (int_eq id) (λ (edge : Edge). edge.id) edges) ∙ e

  -- it is within
  pub stands_within : (index : ℕ) → StandsAt edges id index → index < length edges
  stands_within index stands =
      (position-Some (λ edge. int_eq id edge.id) edges index no_edge stands).0

  -- the edge there has the id
  pub own_id_at : (index : ℕ) → StandsAt edges id index → (get_or edges index no_edge).id ≡ id
  own_id_at index stands = sym ((Decides-int_eq id _).0
      (position-Some (λ edge. int_eq id edge.id) edges index no_edge stands).1)

  -- there is an edge of the id
  pub is_known : (index : ℕ) → StandsAt edges id index → is_some (edge_with edges id) ≡ true
  is_known index stands =
      ap is_some (found_at (λ edge. int_eq id edge.id) edges index stands
      ∙ slice_get-get_or edges index no_edge (stands_within index stands))

  -- no edge has the id
  pub none_with : position (int_eq id) (map (λ edge. edge.id) edges) ≡ None
      → edge_with edges id ≡ None
  none_with e = found_nowhere (λ edge. int_eq id edge.id) edges
      (sym (position-map (int_eq id) (λ (edge : Edge). edge.id) edges) ∙ e)
