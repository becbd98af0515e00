-- The lengths of lines.
use Rattle.std.specs.Prelude.{ℕ, pos, ◌≤◌, ◌<◌, ◌≤ℤ◌, List, All, length, map, option_map, slice_get, sum, unwrap_or}
use Rattle.walks.specs.declared.edge.Edge.{Edge}
use Rattle.walks.specs.Walks.{edge_length}
use Rattle.line_walks.specs.Pools.{LineParts}

-- the length of the edge at an index, in millionths
abbrev pub length_at : List Edge → ℕ → ℕ
length_at edges index = unwrap_or (option_map edge_length (slice_get edges index)) 0

-- the length of a line: the sum of the lengths of its edges
abbrev pub line_length : List Edge → LineParts → ℕ
line_length edges line = sum (map (length_at edges) line.edges)

-- a line whose id is one, whose edges are there and not too many, and which is not too long
pub record IsModest (edges : List Edge) (line : LineParts) : Type 0 where
  pub id_least : pos 1 ≤ℤ line.id
  pub id_greatest : line.id ≤ℤ pos 1000000000
  pub there : All (λ index. index < length edges) line.edges
  pub few : length line.edges ≤ 1000
  pub short : line_length edges line ≤ 10000000000000
