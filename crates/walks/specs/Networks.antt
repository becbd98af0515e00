-- Networks: stops, and edges between them.
use Rattle.std.specs.Prelude.{◌≡◌, ◌≢◌, ℕ, ℤ, pos, ◌<◌, ◌≤◌, ◌≤ℤ◌, List, length, map}
use Rattle.std.specs.List.{All}
use Rattle.std.specs.List.Sorted.{IsStrictlySortedBy}
use Rattle.std.specs.Ordering.{int_cmp}
use Rattle.std.specs.Map.{keys_of, values_of}
use Rattle.walks.specs.declared.edge.Edge.{Edge}

-- the ids of stops, rising, and edges by id rising
pub record NetworkParts : Type 0 where
  pub stops : List ℤ
  pub edges : List Edge

-- what holds of an edge over so many stops: it joins two of them, and has a length and minutes that
-- are some and not too many
pub record IsEdge (stops : ℕ) (edge : Edge) : Type 0 where
  pub left : edge.left < stops
  pub right : edge.right < stops
  pub apart : edge.left ≢ edge.right
  pub some_length : pos 1 ≤ℤ edge.length
  pub short : edge.length ≤ℤ pos 10000000000
  pub some_time : pos 1 ≤ℤ edge.lower
  pub in_order : edge.lower ≤ℤ edge.upper
  pub soon : edge.upper ≤ℤ pos 10000

-- what holds of a network: ids rise, stops and edges are within their limits, and each edge is one
-- over the stops
pub record IsNetwork (network : NetworkParts) : Type 0 where
  pub stops_rise : IsStrictlySortedBy int_cmp network.stops
  pub edges_rise : IsStrictlySortedBy int_cmp (map (λ edge. edge.id) network.edges)
  pub few_stops : length network.stops ≤ 1000
  pub few_edges : length network.edges ≤ 1000
  pub edges : All (IsEdge (length network.stops)) network.edges

-- each entry has the id of its edge
abbrev pub AreKeyed : List (ℤ × Edge) → Type 0
AreKeyed entries = keys_of entries ≡ map (λ edge. edge.id) (values_of entries)
