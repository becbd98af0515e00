-- Paths between terminals, and the lines that they make.
use Rattle.std.specs.Prelude.{ℕ, ℤ, ◌==◌, ◌&&◌, ◌≤◌, ◌<◌, ◌<ℤ◌, nat_eq, int_lt, not, Bool, List, length}
use Rattle.std.specs.Prelude.{map, filter, filter_map, All, Contains}
use Rattle.std.specs.List.{enumerate_from, flat_map, list_all, list_any, range_with_len}
use Rattle.std.specs.Ordering.{int_eq}
use Rattle.walks.specs.Networks.{NetworkParts}
use Rattle.walks.specs.RisingIds.{index_in, rising}
use Rattle.walks.specs.Paths.{IsShortest, way}

-- the pairs of some terminals, the lesser id first: by the first one, and then by the second
abbrev pub pairs_of : List ℤ → List (ℤ × ℤ)
pairs_of terminals =
    flat_map (λ from. map (λ to. (from, to)) (filter (int_lt from) (rising terminals)))
    (rising terminals)

-- the paths of the pairs that a walk joins, as indexes of edges
abbrev pub paths_of : NetworkParts → List ℤ → List (List ℕ)
paths_of network terminals =
    filter_map
    (λ pair. way network (index_in network.stops pair.0) (index_in network.stops pair.1))
    (pairs_of terminals)

-- the edges of a path are all among those of another
abbrev pub lies_in : List ℕ → List ℕ → Bool
lies_in path other = list_all (λ edge. list_any (nat_eq edge) other) path

-- a path lies in one at another place
abbrev pub is_contained : List (List ℕ) → ℕ × List ℕ → Bool
is_contained paths at =
    list_any (λ other. not (other.0 == at.0) && lies_in at.1 other.1) (enumerate_from 0 paths)

-- the paths among some, each with its place, that lie in no other one
abbrev pub lines_among : List (List ℕ) → List (ℕ × List ℕ) → List (List ℕ)
lines_among paths some = map (λ at. at.1) (filter (λ at. not (is_contained paths at)) some)

-- the paths that lie in no other one
abbrev pub uncontained : List (List ℕ) → List (List ℕ)
uncontained paths = lines_among paths (enumerate_from 0 paths)

-- the lines between some terminals
unfoldable pub lines_between : NetworkParts → List ℤ → List (List ℕ)
lines_between network terminals = uncontained (paths_of network terminals)

-- a line has an edge
abbrev pub is_covered : List (List ℕ) → ℕ → Bool
is_covered lines edge = list_any (λ line. list_any (nat_eq edge) line) lines

-- the edges among some that no line has
abbrev pub uncovered_among : List (List ℕ) → List ℕ → List ℕ
uncovered_among lines edges = filter (λ edge. not (is_covered lines edge)) edges

-- the edges of a network that no line has
abbrev pub uncovered : NetworkParts → List (List ℕ) → List ℕ
uncovered network lines = uncovered_among lines (range_with_len 0 (length network.edges))

-- ids are those of stops
abbrev pub are_stops : List ℤ → List ℤ → Bool
are_stops stops ids = list_all (λ id. list_any (int_eq id) stops) ids

-- edges are a shortest line between two terminals: a walk joins these, and no walk between them is
-- shorter
pub record IsShortestLine (network : NetworkParts) (terminals : List ℤ) (line : List ℕ)
    : Type 0 where
  pub from : ℤ
  pub to : ℤ
  pub from_there : Contains terminals from
  pub to_there : Contains terminals to
  pub in_order : from <ℤ to
  pub shortest : IsShortest network (index_in network.stops from) (index_in network.stops to) line

-- a line with few edges, which are there
pub record IsShort (network : NetworkParts) (line : List ℕ) : Type 0 where
  pub few : length line ≤ 1000
  pub there : All (λ edge. edge < length network.edges) line
