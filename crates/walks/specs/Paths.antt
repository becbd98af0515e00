-- Paths along least lengths, each built backward from its end.
use Rattle.std.specs.Prelude.{ℕ, ℤ, zero, suc, ◌≡◌, ◌<◌, ◌≤◌, ◌+◌, ◌==◌, nat_eq, if◌then◌else◌, Bool, false, List, [], ◌∷◌, ◌++◌, length, map, filter_map, position, get_or, slice_get, unsigned_abs, is_some, Option, Some, None, option_map, option_and_then, unwrap_or}
use Rattle.std.specs.Option.{option_or}
use Rattle.std.specs.List.{range_with_len, IsDistinct, All}
use Rattle.walks.specs.declared.edge.Edge.{Edge}
use Rattle.walks.specs.Networks.{NetworkParts}
use Rattle.walks.specs.Walks.{across, edge_length, walk_sum, least_sum, least_sums, IsWalk, AreLeastSums}

-- two numbers are there and equal
abbrev pub are_equal : Option ℕ → Option ℕ → Bool
are_equal (Some number) (Some other) = number == other
are_equal _ _ = false

-- an edge ends a least walk to a stop: it comes from a stop that is nearer by its length. The least
-- lengths of walks to each stop are told.
abbrev pub ends_least : (ℕ → Option ℕ) → ℕ → Edge → Bool
ends_least lengths to edge =
    are_equal (lengths to)
    (option_map (λ near. near + edge_length edge) (option_and_then lengths (across edge to)))

-- the edge of least id that ends a least walk to a stop
abbrev pub last_edge : List Edge → (ℕ → Option ℕ) → ℕ → Option ℕ
last_edge edges lengths to = position (ends_least lengths to) edges

-- the stop from which the edge of an index comes to a stop
abbrev pub stop_before : List Edge → ℕ → ℕ → ℕ
stop_before edges index to =
    unwrap_or (option_and_then (λ edge. across edge to) (slice_get edges index)) to

-- the indexes of the edges of the path between two stops, the last so many of them: the last one,
-- and before it those of the path to where it comes from
unfoldable pub path_within : List Edge → (ℕ → Option ℕ) → ℕ → ℕ → ℕ → List ℕ
path_within edges lengths zero from to = []
path_within edges lengths (suc more) from to =
    if from == to then []
    else unwrap_or (option_map
    (λ index. path_within edges lengths more from (stop_before edges index to) ++ index ∷ [])
    (last_edge edges lengths to)) []

-- the length to a stop among lengths to each stop, where a walk goes there
abbrev pub length_to : List (Option ℤ) → ℕ → Option ℕ
length_to lengths to = option_map unsigned_abs (get_or lengths to None)

-- the path between two stops of a network: along least lengths, and with no more edges than there
-- are stops
abbrev pub path : NetworkParts → ℕ → ℕ → List ℕ
path network from to =
    path_within network.edges (length_to (least_sums network edge_length from))
    (length network.stops) from to

-- the path between two stops, where a walk joins them
abbrev pub way : NetworkParts → ℕ → ℕ → Option (List ℕ)
way network from to =
    if is_some (least_sum network edge_length from to) then Some (path network from to) else None

-- the edges of some indexes
abbrev pub edges_at : List Edge → List ℕ → List Edge
edges_at edges indexes = filter_map (slice_get edges) indexes

-- a path is a walk between two stops, and no walk between them is shorter
pub record IsShortest (network : NetworkParts) (from to : ℕ) (path : List ℕ) : Type 0 where
  pub joins : IsWalk network.edges from to (edges_at network.edges path)
  pub shortest : (walk : List Edge) → IsWalk network.edges from to walk
      → walk_sum edge_length (edges_at network.edges path) ≤ walk_sum edge_length walk

-- the edge of an index is the last one of a walk between two stops, and no walk between them is
-- shorter
pub record EndsLeastWalk (network : NetworkParts) (from to index : ℕ) : Type 0 where
  pub front : List Edge
  pub last : Edge
  pub is : slice_get network.edges index ≡ Some last
  pub joins : IsWalk network.edges from to (front ++ last ∷ [])
  pub least : (walk : List Edge) → IsWalk network.edges from to walk
      → walk_sum edge_length (front ++ last ∷ []) ≤ walk_sum edge_length walk

-- the last edge of a path, where it has one, ends a least walk between its two stops, and no edge
-- of a lesser index does
abbrev pub EndsFirst : NetworkParts → ℕ → ℕ → List ℕ → Type 0
EndsFirst network from to path = (front : List ℕ) (index : ℕ) → path ≡ front ++ index ∷ [] →
    EndsLeastWalk network from to index
    × ((other : ℕ) → other < index → ¬ EndsLeastWalk network from to other)

-- what is known of the paths from a stop: the least length to each stop, and the last edge of the
-- path to it
pub record PathParts : Type 0 where
  pub lengths : List (Option ℤ)
  pub last : List (Option ℕ)

-- the paths from a stop of a network
abbrev pub paths_from : NetworkParts → ℕ → PathParts
paths_from network from = record {
  lengths = least_sums network edge_length from;
  last = map (last_edge network.edges (length_to (least_sums network edge_length from)))
      (range_with_len 0 (length network.stops));
}

-- the last edge to a stop after an edge at an index, where it was told without that edge
abbrev pub last_with : (ℕ → Option ℕ) → ℕ → Option ℕ → ℕ → Edge → Option ℕ
last_with lengths to last index edge =
    option_or last (if ends_least lengths to edge then Some index else None)

-- paths are those from a stop of a network, whose lengths are least over all walks
pub record ArePaths (network : NetworkParts) (from : ℕ) (paths : PathParts) : Type 0 where
  pub is : paths ≡ paths_from network from
  pub least : AreLeastSums network edge_length from paths.lengths
  pub size : length paths.lengths ≡ length network.stops

-- a path has only edges of a network, and each of them once
pub record IsSimple (edges : List Edge) (path : List ℕ) : Type 0 where
  pub apart : IsDistinct nat_eq path
  pub there : All (λ index. index < length edges) path
