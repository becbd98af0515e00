-- A path, step by step from its end.
use Rattle.plan_num.proofs.Common.{◌≡◌, ◌≢◌, ℕ, pos, zero, suc, ◌+◌, ◌-◌, ◌<◌, ◌≤◌}
use Rattle.plan_num.proofs.Common.{List, [], ◌∷◌, ◌++◌, length, get_or, reverse, refl}
use Rattle.plan_num.proofs.Common.{ap, sym, ◌∙◌, arith, append_assoc, Option, Some, None}
use Rattle.plan_num.proofs.Common.{option_map, option_and_then, unwrap_or, All, eq-eqb}
use Rattle.plan_num.proofs.Common.{reverse-append, All-get_or, get_or-map-range_with_len}
use Rattle.plan_num.proofs.Common.{length-map-range_with_len, position-Some, slice_get-get_or}
use Rattle.walks.specs.declared.edge.Edge.{Edge}
use Rattle.walks.specs.Networks.{NetworkParts, IsEdge}
use Rattle.walks.specs.Walks.{edge_length, least_sums}
use Rattle.walks.specs.Paths.{PathParts, ends_least, last_edge, stop_before, path_within, length_to, paths_from}

-- an edge for places where there is none
pub no_edge : Edge
no_edge = record { id = pos 0; left = 0; right = 0; length = pos 0; lower = pos 0; upper = pos 0 }

module _ (edges : List Edge) (lengths : ℕ → Option ℕ) (from : ℕ) where
  -- the path stays where it began
  pub none_there : (more at : ℕ) → at ≡ from → path_within edges lengths more from at ≡ []
  unfolding path_within
  none_there zero at e = refl
  none_there (suc more) at e = rw (eq-eqb from at (sym e)) refl

  -- and where no edge ends a least walk
  pub none_before : (more at : ℕ) → last_edge edges lengths at ≡ None
      → path_within edges lengths more from at ≡ []
  unfolding path_within
  none_before zero at e = refl
  none_before (suc more) at e = grind (arith, unwrap_or, option_map)

  -- the last step of a path
  pub last_step : (more at index : ℕ) → at ≢ from → last_edge edges lengths at ≡ Some index
      → path_within edges lengths (suc more) from at
      ≡ path_within edges lengths more from (stop_before edges index at) ++ index ∷ []
  unfolding path_within
  last_step more at index apart is = grind arith

  -- one step back
  pub goes_back : (size step at index : ℕ) (back whole : List ℕ) → step < size → at ≢ from
      → last_edge edges lengths at ≡ Some index
      → path_within edges lengths (size - step) from at ++ reverse back ≡ whole
      → path_within edges lengths (size - (step + 1)) from (stop_before edges index at)
      ++ reverse (back ++ index ∷ []) ≡ whole
  goes_back size step at index back whole h apart is so_far =
      let more = size - (step + 1) in
      let before = path_within edges lengths more from (stop_before edges index at) in
      let left : suc more ≡ size - step = omega arith in
      ap (λ (some : List ℕ). before ++ some) (reverse-append back (index ∷ []))
      ∙ sym (append_assoc before (index ∷ []) (reverse back))
      ∙ ap (λ (some : List ℕ). some ++ reverse back) (sym (last_step more at index apart is))
      ∙ ap (λ n. path_within edges lengths n from at ++ reverse back) left
      ∙ so_far

  -- where no step is left
  pub done : (size step at : ℕ) → size ≤ step → path_within edges lengths (size - step) from at ≡ []
  unfolding path_within
  done size step at h = let e : size - step ≡ 0 = omega arith in rw e refl

-- the last edge among those that are known
pub last_known : (network : NetworkParts) (from : ℕ) (paths : PathParts) (at : ℕ)
    → paths ≡ paths_from network from → at < length network.stops
    → get_or paths.last at None ≡ last_edge network.edges
    (length_to (least_sums network edge_length from)) at
last_known network from paths at is within = grind (arith, get_or, get_or-map-range_with_len)

-- a last edge is known of each stop
pub as_many_known : (network : NetworkParts) (from : ℕ) (paths : PathParts)
    → paths ≡ paths_from network from → length paths.last ≡ length network.stops
as_many_known network from paths is = grind (arith, length-map-range_with_len)

-- the last edge is one of the network
pub last_there : (edges : List Edge) (lengths : ℕ → Option ℕ) (at index : ℕ)
    → last_edge edges lengths at ≡ Some index → index < length edges
last_there edges lengths at index is =
    (position-Some (ends_least lengths at) edges index no_edge is).0

-- it comes from a stop of the network
pub before_there : (edges : List Edge) (n index at : ℕ) → All (IsEdge n) edges
    → index < length edges → at < n → stop_before edges index at < n
before_there edges n index at sound within here =
    let edge = get_or edges index no_edge in
    let is = All-get_or (IsEdge n) edges index no_edge within sound in grind (
      arith,
      unwrap_or,
      option_and_then,
      slice_get-get_or,
      no_edge,
    )
